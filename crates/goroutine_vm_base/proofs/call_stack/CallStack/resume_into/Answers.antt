use Rattle.std.proofs.Common.{◌≡◌, ◌∙◌, ℕ, ◌+◌, ◌-◌, [], ◌∷◌, ℤ, ap, arith, reverse, rules, slice_set, take, to_z, of_z, w64}
use Rattle.bytecode.specs.Machine.{Frame, Frames}
use Rattle.goroutine_vm_base.proofs.Stacks.{resumed_into, second_put}
use Rattle.word.specs.declared.value.Word.TheVariants.{Int}
use Rattle.goroutine_vm_base.proofs.call_stack.CallStack.resume_into.Goals as goal
use Rattle.goroutine_vm_base.proofs.call_stack.CallStack.resume_into.Goals.{After-index_mut-frame}

-- the caller is before the last one called
there : (c : After-index_mut-frame) → (y : Frame) × (rest : Frames) × (c.args.self.now ≡ y ∷ (c.index_mut-frame.result.now ∷ rest)) × (reverse (take (c.self.inside.depth - 1) (slice_set c.self.inside.frames.items (c.self.inside.depth - 2) c.index_mut-frame.result.now)) ≡ c.index_mut-frame.result.now ∷ rest)
there c = second_put c.self.inside.frames.items c.args.self.now c.self.inside.depth c.index_mut-frame.result.now c.index_mut-frame.result.now c.requires.some c.self.invariant.0 c.self.view_is c.index_mut-frame.ensures.value

pub overflow_add-next : goal.overflow_add-next
overflow_add-next c =
    let p = there (goal.at.overflow_add-next c).After-index_mut-frame in
    let low = c.requires.place p.0 c.index_mut-frame.result.now p.1 p.2 in
    let same = c.place-next.ensures in
    omega (arith, low, same)

pub keep-requires : goal.keep-requires
keep-requires c =
    let p = there (goal.at.keep-requires c).After-index_mut-frame in
    c.requires.to p.0 c.index_mut-frame.result.now p.1 p.2

pub returns : goal.returns
returns c =
    let r = c.index_mut-frame.result.now in
    let n = c.args.number in
    let to = c.args.to in
    let same : to_z w64 (of_z w64 n) ≡ n = search rules in
    resumed_into c.self.inside.frames.items c.args.self.now c.self.inside.depth to r c.keep.new.frame n c.requires.some c.self.invariant.0 c.self.view_is c.index_mut-frame.ensures.value
    (c.keep.ensures
    ∙ ap (λ (z : ℤ). record r { place = c.place-next.result + 2; locals = slice_set r.locals to (Int z); told = [] }) same
    ∙ ap (λ (p : ℕ). record r { place = p + 2; locals = slice_set r.locals to (Int n); told = [] }) c.place-next.ensures)
