use Rattle.goroutine_vm_base.proofs.Stacks.{second_is}
use Rattle.goroutine_vm_base.proofs.call_stack.CallStack.caller.Goals as goal

pub returns : goal.returns
returns c = λ y x cs is. second_is c.self.inside.frames.items c.args.self.now c.self.inside.depth c.index.result.now y x cs c.self.invariant.0 c.self.view_is c.index.ensures is
