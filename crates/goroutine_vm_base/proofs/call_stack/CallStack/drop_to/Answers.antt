use Rattle.bytecode.specs.Effects.{below}
use Rattle.bytecode.specs.Machine.{Frame}
use Rattle.goroutine_vm_base.proofs.Stacks.{last_changed}
use Rattle.goroutine_vm_base.proofs.call_stack.CallStack.drop_to.Goals as goal

pub returns : goal.returns
returns c = λ x cs is.
    last_changed c.self.inside.frames.items c.args.self.now c.self.inside.depth c.index_mut.result.now c.drop_to.new.self x cs (λ (y : Frame). record y { place = c.args.place; stack = below c.args.count y.stack }) c.self.invariant.1 c.self.invariant.0 c.self.view_is
    c.index_mut.ensures.value c.drop_to.ensures is
