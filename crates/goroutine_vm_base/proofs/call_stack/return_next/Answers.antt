use Rattle.std.proofs.Common.{◌≡◌, ◌+◌, ◌<◌, [], ◌∷◌, ◌++◌, length, take, ap, ◌∙◌, arith, get_or, slice_set}
use Rattle.bytecode.specs.Machine.{Frame, Frames}
use Rattle.goroutine_vm_base.proofs.Stacks.{back_at, front_at, one_put}
use Rattle.goroutine_vm_base.proofs.call_stack.return_next.Goals as goal

pub returns-clause-ok : goal.returns-clause-ok
returns-clause-ok c = λ x y here next.
    let xs = c.args.frames.now in
    let p = c.args.place in
    let front = c.split_at_mut-waiting.ensures.front in
    let rest = c.split_at_mut-waiting.result.1.now in
    let is = front_at xs c.split_at_mut-waiting.result.0.now p x c.index-waiting-place.result front here in
    let ended = back_at xs rest p y c.index-ended-0.result c.split_at_mut-waiting.ensures.back next in
    let top = (get_or rest 0 c.index-ended-0.result).stack in
    let taken : ◌≡◌ {A = Frame} c.take_results.new.self (record x { stack = x.stack ++ y.stack }) =
    c.in_ok-take_results.ensures.ok ∙ ap (λ (z : Frame). record z { stack = z.stack ++ top }) is ∙ ap (λ (z : Frame). record x { stack = x.stack ++ z.stack }) ended in
    let within : p < length xs = omega (arith, c.requires) in
    ap (λ (l : Frames). take (p + 1) (slice_set l p c.take_results.new.self ++ rest)) front
    ∙ one_put xs rest p c.take_results.new.self within
    ∙ ap (λ (z : Frame). take p xs ++ z ∷ []) taken
