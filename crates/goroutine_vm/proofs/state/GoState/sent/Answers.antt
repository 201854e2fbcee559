use Rattle.std.proofs.Common.{[], None, sym, subst}
use Rattle.bytecode.specs.Machine.{Frames}
use Rattle.bytecode.specs.Rules.{IsFrameOf}
use Rattle.bytecode.proofs.Unstuck.{words_keep}
use Rattle.word.specs.Kinds.{Clocked}
use Rattle.goroutine_vm.proofs.state.GoState.sent.Goals as goal

pub returns-clause-frame : goal.returns-clause-frame
returns-clause-frame c =
    let code = c.code.result.now in
    let held : IsFrameOf code c.self.inside.frames = subst (λ x. IsFrameOf x c.self.inside.frames) (sym c.code.ensures.code) (subst (λ (s : Clocked Frames). IsFrameOf c.args.code.now s.state) (sym c.self.view_is) c.requires) in
    subst (λ x. IsFrameOf x c.tell.new.self) c.code.ensures.code (subst (IsFrameOf code) (sym c.tell.ensures) (words_keep code c.code.ensures.verified c.self.inside.frames None [] held))
