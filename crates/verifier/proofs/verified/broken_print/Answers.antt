use Rattle.std.proofs.Common.{◌≡◌, ◌∙◌, ◌<◌, sym, ap, arith, List, length, Some, slice_get}
use Rattle.std.proofs.lemmas.Option.{slice_get-get_or}
use Rattle.bytecode.specs.Code.{PrintTable}
use Rattle.bytecode.specs.Rules.{IsShort}
use Rattle.verifier.proofs.Holds.{all_more}
use Rattle.verifier.proofs.verified.broken_print.Goals as goal

pub loop-number-preserved : goal.loop-number-preserved
loop-number-preserved c =
    let code = c.args.code.now in
    let n = c.loop-number.number in
    let table : PrintTable = c.index-prints-number.result in
    let lt : n < length c.prints.result.now = omega (arith, c.loop-number-test.true, ap length c.prints.ensures, ap length c.prints-number-end.ensures) in
    let here : slice_get code.prints n ≡ Some table = ap (λ (xs : List PrintTable). slice_get xs n) (sym c.prints.ensures) ∙ slice_get-get_or c.prints.result.now n table lt ∙ ap Some (sym c.index-prints-number.is) in
    all_more IsShort code.prints n table c.loop-number.invariant here (omega (arith, c.if-parts-gt-MAX_PARTS.false, ap length c.parts.ensures))
