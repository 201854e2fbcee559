use Rattle.std.proofs.Common.{◌≡◌, ◌∙◌, ◌<◌, length, drop, ap, rules}
use Rattle.std.proofs.lemmas.List.{take_rest}
use Rattle.goroutine_vm_request.proofs.Asking.{go_for}
use Rattle.goroutine_vm_request.proofs.asked.go.Goals as goal

pub returns : goal.returns
returns c = λ callers.
    let args : c.in_ok-args.args.items ≡ drop c.args.at c.args.frame.now.stack = c.in_ok-args.ensures ∙ take_rest c.stack.result.now c.args.at ∙ ap (drop c.args.at) c.stack.ensures in
    let below : c.args.function < length c.args.code.now.functions = search rules in
    go_for c.args.code.now.functions c.args.function (drop c.args.at c.args.frame.now.stack) c.in_ok-args.args below args
