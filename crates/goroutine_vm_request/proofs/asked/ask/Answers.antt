use Rattle.std.proofs.Common.{◌≡◌, ◌∙◌, ◌<◌, ◌-◌, List, length, take, drop, Some, ap, sym, rules, slice_get}
use Rattle.std.proofs.lemmas.List.{take_rest}
use Rattle.std.proofs.lemmas.Option.{slice_get-get_or}
use Rattle.std.proofs.lemmas.Result.{IfOk-weaker}
use Rattle.bytecode.specs.Code.{PrintTable}
use Rattle.bytecode.specs.Machine.{printed}
use Rattle.goroutine_vm_request.proofs.Asking.{print_for}
use Rattle.goroutine_vm_request.proofs.asked.ask.Goals as goal

pub returns-in-Apply : goal.returns-in-Apply
returns-in-Apply c = λ callers deep. rw c.in-Apply.is (c.panics.ensures c.args.code.now callers)

pub returns-in-Make : goal.returns-in-Make
returns-in-Make c = IfOk-weaker c.make.result _ _ (λ asking h callers deep. rw c.in-Make.is (h callers)) c.make.ensures

pub returns-in-Send : goal.returns-in-Send
returns-in-Send c = λ callers deep. rw c.in-Send.is (c.send.ensures c.args.code.now callers)

pub returns-in-Receive : goal.returns-in-Receive
returns-in-Receive c = λ callers deep. rw c.in-Receive.is (c.receive.ensures c.args.code.now callers)

pub returns-in-Close : goal.returns-in-Close
returns-in-Close c = λ callers deep. rw c.in-Close.is (c.close.ensures c.args.code.now callers)

pub returns-in-Len : goal.returns-in-Len
returns-in-Len c = λ callers deep. rw c.in-Len.is (c.len.ensures c.args.code.now callers)

pub returns-in-Cap : goal.returns-in-Cap
returns-in-Cap c = λ callers deep. rw c.in-Cap.is (c.cap.ensures c.args.code.now callers)

pub returns-in-Select : goal.returns-in-Select
returns-in-Select c = IfOk-weaker c.select.result _ _ (λ asking h callers deep. rw c.in-Select.is (h callers)) c.select.ensures

pub returns-in-Go : goal.returns-in-Go
returns-in-Go c = IfOk-weaker c.go.result _ _ (λ asking h callers deep. rw c.in-Go.is (h callers)) c.go.ensures

pub returns-in_ok-text-in-Print : goal.returns-in_ok-text-in-Print
returns-in_ok-text-in-Print c = λ callers deep.
    let prints : List PrintTable = c.prints-prints.result.now in
    let table : PrintTable = c.index-prints-table.result in
    let words : take (length c.stack.result.now - c.args.at) (drop c.args.at c.stack.result.now) ≡ drop c.args.at c.args.frame.now.stack = take_rest c.stack.result.now c.args.at ∙ ap (drop c.args.at) c.stack.ensures in
    let lt : c.in-Print.table < length prints = search rules in
    let here : slice_get c.args.code.now.prints c.in-Print.table ≡ Some table = ap (λ (xs : List PrintTable). slice_get xs c.in-Print.table) (sym c.prints-prints.ensures) ∙ slice_get-get_or prints c.in-Print.table table lt ∙ ap Some (sym c.index-prints-table.is) in
    let text : c.in_ok-text-in-Print.text.items ≡ printed table (drop c.args.at c.args.frame.now.stack) = c.in_ok-text-in-Print.ensures ∙ ap (printed table) words in
    rw c.in-Print.is (print_for c.args.code.now.prints c.in-Print.table table (drop c.args.at c.args.frame.now.stack) c.in_ok-text-in-Print.text here text)
