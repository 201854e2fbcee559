use Rattle.std.proofs.Common.{◌≡◌, ◌∙◌, ◌<◌, sym, ap, subst, arith, List, length, Some, slice_get}
use Rattle.std.proofs.lemmas.Option.{slice_get-get_or}
use Rattle.bytecode.specs.declared.instr.WordKind.{WordKind}
use Rattle.bytecode.specs.Rules.{IsShaped}
use Rattle.verifier.proofs.Holds.{all_more}
use Rattle.verifier.proofs.verified.broken_shape.Goals as goal

pub loop-number-preserved : goal.loop-number-preserved
loop-number-preserved c =
    let code = c.args.code.now in
    let n = c.loop-number.number in
    let kinds : List WordKind = c.index-shapes-number.result in
    let lt : n < length c.shapes.result.now = omega (arith, c.loop-number-test.true, ap length c.shapes.ensures, ap length c.shapes-number-end.ensures) in
    let here : slice_get code.shapes n ≡ Some kinds = ap (λ (xs : List (List WordKind)). slice_get xs n) (sym c.shapes.ensures) ∙ slice_get-get_or c.shapes.result.now n kinds lt ∙ ap Some (sym c.index-shapes-number.is) in
    all_more (IsShaped code) code.shapes n kinds c.loop-number.invariant here (subst (IsShaped code) c.kinds.ensures c.in_default.ensures.none)
