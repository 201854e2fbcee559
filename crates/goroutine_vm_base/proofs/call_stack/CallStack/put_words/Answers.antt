use Rattle.std.proofs.Common.{◌++◌}
use Rattle.bytecode.specs.Machine.{Frame}
use Rattle.goroutine_vm_base.proofs.Stacks.{last_changed}
use Rattle.goroutine_vm_base.proofs.call_stack.CallStack.put_words.Goals as goal

pub returns-clause-ok : goal.returns-clause-ok
returns-clause-ok c = λ x cs is.
    last_changed c.self.inside.frames.items c.args.self.now c.self.inside.depth c.index_mut.result.now c.push_all.new.self x cs (λ (y : Frame). record y { stack = y.stack ++ c.args.words.now }) c.self.invariant.1 c.self.invariant.0 c.self.view_is
    c.index_mut.ensures.value c.in_ok-push_all.ensures.ok is
