use Rattle.std.proofs.Common.{◌∙◌, sym, take, drop}
use Rattle.goroutine_vm_request.proofs.Asking.{asks_some, apply_no_tick, panic_asked, panic_some}
use Rattle.goroutine_vm_request.proofs.asked.asks.Goals as goal

pub returns-in-Apply : goal.returns-in-Apply
returns-in-Apply c = λ code callers deep sound. rw c.in-Apply.is (c.is_some.ensures ∙ sym (panic_some c.panic_of.result) ∙ asks_some c.args.at_limit _ (panic_asked c.panic_of.result) (apply_no_tick code c.args.frame.now callers (take c.args.at c.args.frame.now.stack) (drop c.args.at c.args.frame.now.stack) c.in-Apply.op) (c.panic_of.ensures code callers))
