use Rattle.std.proofs.Common.{◌≡◌, ◌∙◌, ◌<◌, sym, ap, subst, arith, List, length, Some, slice_get}
use Rattle.std.proofs.lemmas.Option.{slice_get-get_or}
use Rattle.bytecode.specs.Code.{Function}
use Rattle.bytecode.specs.Rules.{Holds}
use Rattle.verifier.specs.Tables.{Judged}
use Rattle.verifier.proofs.Holds.{all_more, all_of}
use Rattle.verifier.proofs.verified.broken_function.Goals as goal

pub loop-number-preserved : goal.loop-number-preserved
loop-number-preserved c =
    let code = c.args.code.now in
    let n = c.loop-number.number in
    let f : Function = c.index-functions-number.result in
    let lt : n < length c.functions.result.now = omega (arith, c.loop-number-test.true, ap length c.functions.ensures, ap length c.functions-number-end.ensures) in
    let here : slice_get code.functions n ≡ Some f = ap (λ (xs : List Function). slice_get xs n) (sym c.functions.ensures) ∙ slice_get-get_or c.functions.result.now n f lt ∙ ap Some (sym c.index-functions-number.is) in
    let fine : Holds code f = subst (λ o. Judged o code f) c.in_default.is c.in_ok-rule.ensures in
    all_more (Holds code) code.functions n f c.loop-number.invariant here fine

pub returns : goal.returns
returns c = all_of (Holds c.args.code.now) c.args.code.now.functions c.loop-number.number (omega (arith, c.loop-number-test.false, ap length c.functions-number-end.ensures)) c.loop-number.invariant
