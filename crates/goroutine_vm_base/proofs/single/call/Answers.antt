use Rattle.std.proofs.Common.{◌≡◌, ◌∙◌, ◌+◌, ◌<◌, List, ◌∷◌, true, length, take, drop, Some, ap, sym, arith, rules, slice_get}
use Rattle.std.proofs.lemmas.Option.{slice_get-get_or}
use Rattle.bytecode.specs.Code.{Function}
use Rattle.bytecode.specs.Machine.{begun, goes_on}
use Rattle.goroutine_vm_base.proofs.Calls.{called}
use Rattle.goroutine_vm_base.proofs.single.call.Goals as goal

pub returns-clause-ok : goal.returns-clause-ok
returns-clause-ok c = λ x cs is.
    let f : Function = c.index-functions-function.result in
    let m : c.args.may ≡ true = search rules in
    let lt : c.args.function < length c.functions-functions.result.now = search rules in
    let e : slice_get c.args.code.now.functions c.args.function ≡ Some f = ap (λ (xs : List Function). slice_get xs c.args.function) (sym c.functions-functions.ensures) ∙ slice_get-get_or c.functions-functions.result.now c.args.function f lt ∙ ap Some (sym c.index-functions-function.is) in
    let below : length c.args.frames.now < 1000 = search rules in
    let many = ap length is in
    let d : length cs + 1 < 1000 = omega (arith, below, many) in
    let entered : c.enter.new.self ≡ begun f.locals c.args.function (drop c.args.at x.stack) ∷ (goes_on x (take c.args.at x.stack) ∷ cs) =
    c.in_ok-enter.ensures.ok x cs is ∙ ap (λ ks. begun ks c.args.function (drop c.args.at x.stack) ∷ (goes_on x (take c.args.at x.stack) ∷ cs)) c.locals-locals.ensures in
    called c.args.code.now c.args.may c.args.frames.now c.enter.new.self x cs c.args.function c.args.at f m e d entered
