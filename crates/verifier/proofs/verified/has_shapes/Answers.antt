use Rattle.std.proofs.Common.{◌≡◌, ◌∙◌, ◌<◌, sym, ap, arith, List, length, get_or, Some, slice_get}
use Rattle.std.proofs.lemmas.Option.{slice_get-get_or}
use Rattle.bytecode.specs.declared.table.Clause.{Clause}
use Rattle.bytecode.specs.declared.table.Clause.TheVariants.{Send}
use Rattle.bytecode.specs.Effects.{clause_shape}
use Rattle.verifier.proofs.Holds.{all_more}
use Rattle.verifier.proofs.verified.has_shapes.Goals as goal

pub loop-number-preserved : goal.loop-number-preserved
loop-number-preserved c =
    let shapes = c.args.code.now.shapes in
    let clauses = c.args.table.now.clauses in
    let n = c.loop-number.number in
    let clause : Clause = get_or c.clauses-clauses.result.now n (Send 0 0) in
    let here : slice_get clauses n ≡ Some clause = ap (λ (xs : List Clause). slice_get xs n) (sym c.clauses-clauses.ensures) ∙ slice_get-get_or c.clauses-clauses.result.now n (Send 0 0) c.loop-number-test.true in
    let fine : clause_shape clause < length shapes = omega (arith, c.if-shape-shapes.false, c.shape.ensures, ap length c.shapes.ensures) in
    all_more (λ (x : Clause). clause_shape x < length shapes) clauses n clause c.loop-number.invariant here fine
