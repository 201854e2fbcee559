use Rattle.std.proofs.Common.{◌≡◌, ◌∙◌, ◌<◌, sym, ap, arith, List, length, Some, slice_get}
use Rattle.std.proofs.lemmas.Option.{slice_get-get_or}
use Rattle.bytecode.specs.Code.{SelectTable}
use Rattle.bytecode.specs.Rules.{IsSelect}
use Rattle.verifier.proofs.Holds.{all_more, all_of}
use Rattle.verifier.proofs.verified.broken_select.Goals as goal

pub loop-number-preserved : goal.loop-number-preserved
loop-number-preserved c =
    let code = c.args.code.now in
    let n = c.loop-number.number in
    let table : SelectTable = c.index-selects-number.result in
    let lt : n < length c.selects.result.now = omega (arith, c.loop-number-test.true, ap length c.selects.ensures, ap length c.selects-number-end.ensures) in
    let here : slice_get code.selects n ≡ Some table = ap (λ (xs : List SelectTable). slice_get xs n) (sym c.selects.ensures) ∙ slice_get-get_or c.selects.result.now n table lt ∙ ap Some (sym c.index-selects-number.is) in
    all_more (IsSelect code) code.selects n table c.loop-number.invariant here c.in_default.ensures.none

pub returns-clause-none : goal.returns-clause-none
returns-clause-none c = all_of (IsSelect c.args.code.now) c.args.code.now.selects c.loop-number.number (omega (arith, c.loop-number-test.false, ap length c.selects-number-end.ensures)) c.loop-number.invariant
