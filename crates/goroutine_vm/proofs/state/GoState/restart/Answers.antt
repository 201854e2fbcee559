use Rattle.std.proofs.Common.{rules, subst, sym}
use Rattle.bytecode.specs.Rules.{IsFrameOf, IsVerified}
use Rattle.bytecode.proofs.Unstuck.{begin_keeps}
use Rattle.goroutine_vm.proofs.state.GoState.restart.Goals as goal

pub returns-clause-frame : goal.returns-clause-frame
returns-clause-frame c =
    let code = c.args.code.now in
    let begun = begin_keeps code (subst IsVerified c.code.ensures.code c.code.ensures.verified) c.args.function c.args.args.now c.requires in
    subst (IsFrameOf code) (sym (search rules)) begun
