use Rattle.std.proofs.Common.{ℕ, ◌-◌, ◌<◌, ◌≤◌, List, Some, None, cond, length, ap, refl, arith}
use Rattle.bytecode.specs.declared.instr.Instr.TheVariants as instrs
use Rattle.goroutine_vm_base.proofs.Stacks.{first_of}
use Rattle.call_frame.specs.Steps.{StandsAt}
use Rattle.word.specs.declared.value.Word.{Word}
use Rattle.goroutine_vm_request.proofs.Asking.{asks_at, none_at}
use Rattle.goroutine_vm_request.proofs.asked.request.Goals as goal

pub returns-then-have-wanted : goal.returns-then-have-wanted
returns-then-have-wanted c =
    let code = c.args.code.now in
    let fs = c.args.frames.now in
    let r = c.last-frame.result.now in
    let first = first_of fs r c.last-frame.ensures.some c.last-frame.ensures.last in
    let s : StandsAt code r (instrs.Send c.in-Some-Send.shape) = rw c.in-Some-Send.field-0-is at c.in-Some-Send.ensures.stands in
    let view = ap (λ (l : List Word). length l) c.stack-have.ensures in
    let short : length r.stack < c.sent_words-wanted.result = omega (arith, view, c.if-have-wanted.true) in
    none_at code fs r first.0 (instrs.Send c.in-Some-Send.shape) c.sent_words-wanted.result first.1 c.quiet.ensures s (c.sent_words-wanted.ensures s.0) short

pub returns-else-have-wanted : goal.returns-else-have-wanted
returns-else-have-wanted c =
    let code = c.args.code.now in
    let fs = c.args.frames.now in
    let r = c.last-frame.result.now in
    let first = first_of fs r c.last-frame.ensures.some c.last-frame.ensures.last in
    let s : StandsAt code r (instrs.Send c.in-Some-Send.shape) = rw c.in-Some-Send.field-0-is at c.in-Some-Send.ensures.stands in
    let view = ap (λ (l : List Word). length l) c.stack-have.ensures in
    let wanted = c.sent_words-wanted.result in
    let enough : wanted ≤ length r.stack = omega (arith, view, c.if-have-wanted.false) in
    asks_at code fs r first.0 (instrs.Send c.in-Some-Send.shape) wanted first.1 c.quiet.ensures s (c.sent_words-wanted.ensures s.0) (length c.stack-have.result.now - wanted) (cond c.send.result (Some c.send.new.place) None) (ap (λ (n : ℕ). n - wanted) view) enough
    (c.send.ensures code first.0)

pub returns-else-have-lt1 : goal.returns-else-have-lt1
returns-else-have-lt1 c =
    let code = c.args.code.now in
    let fs = c.args.frames.now in
    let r = c.last-frame.result.now in
    let first = first_of fs r c.last-frame.ensures.some c.last-frame.ensures.last in
    let s : StandsAt code r (instrs.Receive c.in-Some-Receive.shape) = rw c.in-Some-Receive.field-0-is at c.in-Some-Receive.ensures.stands in
    let view = ap (λ (l : List Word). length l) c.stack-have.ensures in
    let enough : 1 ≤ length r.stack = omega (arith, view, c.if-have-lt1.false) in
    asks_at code fs r first.0 (instrs.Receive c.in-Some-Receive.shape) 1 first.1 c.quiet.ensures s refl (length c.stack-have.result.now - 1) (cond c.receive.result (Some c.receive.new.place) None) (ap (λ (n : ℕ). n - 1) view) enough
    (c.receive.ensures code first.0)
