use Rattle.std.proofs.Common.{◌≡◌, ◌∷◌}
use Rattle.bytecode.specs.Machine.{Frames}
use Rattle.goroutine_vm_base.proofs.Stacks.{put_after}
use Rattle.goroutine_vm_base.proofs.call_stack.CallStack.plain_last.Goals as goal
use Rattle.goroutine_vm_base.proofs.call_stack.CallStack.plain_last.Goals.{After-index_mut}

-- the frame is the last one called
there : (c : After-index_mut) → (cs : Frames) × (c.args.self.now ≡ c.index_mut.result.now ∷ cs)
there c =
    let p = put_after c.self.inside.frames.items c.args.self.now c.self.inside.depth c.index_mut.result.now c.index_mut.result.now c.self.invariant.1 c.self.invariant.0 c.self.view_is c.index_mut.ensures.value in
    (p.0, p.1)

pub plain-requires-clause-at : goal.plain-requires-clause-at
plain-requires-clause-at c = let p = there (goal.at.plain-requires-clause-at c).After-index_mut in c.requires.at c.index_mut.result.now p.0 p.1

pub plain-requires-clause-below : goal.plain-requires-clause-below
plain-requires-clause-below c = let p = there (goal.at.plain-requires-clause-below c).After-index_mut in c.requires.below c.index_mut.result.now p.0 p.1
