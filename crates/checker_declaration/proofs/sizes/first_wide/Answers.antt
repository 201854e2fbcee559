use Rattle.std.proofs.Common.{◌≤◌, ℕ, List, All, subst, arith}
use Rattle.std.proofs.lemmas.List.{take_all}
use Rattle.std.proofs.lemmas.List.Elements.{All-more}
use Rattle.checker_declaration.proofs.sizes.first_wide.Goals as goal

pub loop-number-preserved : goal.loop-number-preserved
loop-number-preserved c =
    All-more (λ (w : ℕ). w ≤ 16) c.args.widths.now c.loop-number.number 0 (omega (arith, c.loop-number-test.true)) c.loop-number.invariant (omega (arith, c.if-words-gt-MOST_WORDS.false))

pub returns-clause-narrow : goal.returns-clause-narrow
returns-clause-narrow c =
    subst (λ (xs : List ℕ). All (λ (w : ℕ). w ≤ 16) xs) (take_all c.loop-number.number c.args.widths.now (omega (arith, c.loop-number-test.false))) c.loop-number.invariant
