use Rattle.std.proofs.Common.{ℕ, ◌-◌, ◌<◌, ◌≤◌, List, length, ap, refl, arith}
use Rattle.bytecode.specs.declared.instr.Instr.TheVariants as instrs
use Rattle.goroutine_vm_base.proofs.Stacks.{first_of}
use Rattle.call_frame.specs.Steps.{StandsAt}
use Rattle.word.specs.declared.value.Word.{Word}
use Rattle.goroutine_vm_request.proofs.Talking.{mute_at, mute_short, talks_at}
use Rattle.goroutine_vm_request.proofs.talks.find_talk.Goals as goal

pub returns-then-have-wanted : goal.returns-then-have-wanted
returns-then-have-wanted c =
    let code = c.args.code.now in
    let fs = c.args.frames.now in
    let r = c.last-frame.result.now in
    let first = first_of fs r c.last-frame.ensures.some c.last-frame.ensures.last in
    let s : StandsAt code r (instrs.Send c.in-Send.shape) = rw c.in-Send.is at c.in-Some.ensures.stands in
    let view = ap (λ (l : List Word). length l) c.stack-have.ensures in
    let short : length r.stack < c.sent_words-wanted.result = omega (arith, view, c.if-have-wanted.true) in
    mute_short code fs r first.0 first.1 c.quiet.ensures (instrs.Send c.in-Send.shape) c.sent_words-wanted.result s (c.sent_words-wanted.ensures s.0) short

pub returns-else-have-wanted : goal.returns-else-have-wanted
returns-else-have-wanted c =
    let code = c.args.code.now in
    let fs = c.args.frames.now in
    let r = c.last-frame.result.now in
    let first = first_of fs r c.last-frame.ensures.some c.last-frame.ensures.last in
    let s : StandsAt code r (instrs.Send c.in-Send.shape) = rw c.in-Send.is at c.in-Some.ensures.stands in
    let view = ap (λ (l : List Word). length l) c.stack-have.ensures in
    let wanted = c.sent_words-wanted.result in
    let enough : wanted ≤ length r.stack = omega (arith, view, c.if-have-wanted.false) in
    talks_at code fs r first.0 first.1 c.quiet.ensures (instrs.Send c.in-Send.shape) wanted s (c.sent_words-wanted.ensures s.0) (length c.stack-have.result.now - wanted) c.sent.result (ap (λ (n : ℕ). n - wanted) view) enough
    (c.sent.ensures code first.0 c.in-Send.shape)

pub returns-else-have-lt1 : goal.returns-else-have-lt1
returns-else-have-lt1 c =
    let code = c.args.code.now in
    let fs = c.args.frames.now in
    let r = c.last-frame.result.now in
    let first = first_of fs r c.last-frame.ensures.some c.last-frame.ensures.last in
    let s : StandsAt code r (instrs.Receive c.in-Receive.field-0) = rw c.in-Receive.is at c.in-Some.ensures.stands in
    let view = ap (λ (l : List Word). length l) c.stack-have.ensures in
    let enough : 1 ≤ length r.stack = omega (arith, view, c.if-have-lt1.false) in
    talks_at code fs r first.0 first.1 c.quiet.ensures (instrs.Receive c.in-Receive.field-0) 1 s refl (length c.stack-have.result.now - 1) c.received.result (ap (λ (n : ℕ). n - 1) view) enough
    (c.received.ensures code first.0 c.in-Receive.field-0)

pub returns-in_default-i : goal.returns-in_default-i
returns-in_default-i c =
    let fs = c.args.frames.now in
    let r = c.last-frame.result.now in
    let first = first_of fs r c.last-frame.ensures.some c.last-frame.ensures.last in
    mute_at c.args.code.now fs r first.0 first.1 c.quiet.ensures c.in-Some.i.now c.in-Some.ensures.stands c.in_default-i.not-Send c.in_default-i.not-Receive
