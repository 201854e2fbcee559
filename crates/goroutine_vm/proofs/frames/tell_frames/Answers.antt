use Rattle.std.proofs.Common.{◌+◌, refl, ap}
use Rattle.bytecode.specs.declared.instr.Instr.TheVariants as instrs
use Rattle.goroutine_vm_base.proofs.Stacks.{first_of}
use Rattle.call_frame.specs.Steps.{StandsAt}
use Rattle.goroutine_vm.proofs.Quiet.{told_here}
use Rattle.goroutine_vm.proofs.frames.tell_frames.Goals as goal

pub returns-in-Some-Send : goal.returns-in-Some-Send
returns-in-Some-Send c =
    let code = c.args.code.now in
    let fs = c.args.frames.now in
    let r = c.last-frame.result.now in
    let first = first_of fs r c.last-frame.ensures.some c.last-frame.ensures.last in
    let s : StandsAt code r (instrs.Send c.in-Some-Send.shape) = rw c.in-Some-Send.field-0-is at c.in-Some-Send.ensures.stands in
    told_here code fs c.drop_to.new.self r first.0 c.args.chosen c.args.words.now c.clear.new.self (instrs.Send c.in-Some-Send.shape) c.sent_words.result (c.place-next.result + 1) first.1 c.quiet.ensures s (c.sent_words.ensures s.0) (ap (λ n. n + 1) c.place-next.ensures) refl
    c.clear.ensures c.drop_to.ensures
