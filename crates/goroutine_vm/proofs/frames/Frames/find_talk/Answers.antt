use Rattle.std.proofs.Common.{◌≡◌, length, sym, subst, arith}
use Rattle.bytecode.specs.Machine.{Frames, code_next}
use Rattle.goroutine_vm.proofs.Quiet.{quiet_frames}
use Rattle.goroutine_vm_request.specs.Talks.{next_talk}
use Rattle.goroutine_vm.proofs.frames.Frames.find_talk.Goals as goal

pub returns : goal.returns
returns c =
    let none : length c.as_ref.result.now ≡ 0 = omega arith in
    let e = quiet_frames c.as_ref-frames.result.now c.args.self.now c.as_ref.result.now c.quiet.ensures none (rw (c.as_ref-frames.ensures, c.as_ref.ensures) c.self.view_is) in
    subst (λ (s : Frames). c.find_talk.result ≡ next_talk (code_next c.args.code.now s)) (sym e) c.find_talk.ensures
