use Rattle.std.proofs.Common.{◌≡◌, length}
use Rattle.std.specs.Prelude.{map}
use Rattle.output_update.specs.Tokens.{spelt_in}
use Rattle.output_update.proofs.rewriting.are_same.Given as goal

abbrev pub invariant-tokens : goal.invariant-tokens
invariant-tokens l = map (spelt_in l.text) l.tokens ≡ map (spelt_in l.other) l.wanted → map (spelt_in l.text) l.initial.tokens ≡ map (spelt_in l.other) l.initial.wanted

abbrev pub decreases-tokens : goal.decreases-tokens
decreases-tokens l = length l.tokens
