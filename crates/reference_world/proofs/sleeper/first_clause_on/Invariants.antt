use Rattle.std.proofs.Common.{◌≡◌, suc, drop}
use Rattle.word.specs.Requests.{clause_offers, first_on}
use Rattle.reference_world.proofs.sleeper.first_clause_on.Given as goal

abbrev pub invariant-loop-i : goal.invariant-loop-i
invariant-loop-i l = first_on l.chan (clause_offers (suc l.i) (drop l.i l.cases)) ≡ first_on l.chan (clause_offers 1 l.cases)
