use Rattle.std.proofs.Common.{◌≡◌, ◌+◌, [], ◌∷◌, ◌++◌, ℤ, take, drop, ap, ◌∙◌, rules, slice_set, to_z, of_z, w64}
use Rattle.bytecode.specs.Machine.{Frame, Frames, begun}
use Rattle.goroutine_vm_base.proofs.Stacks.{both_put, front_at}
use Rattle.call_frame.specs.Steps.{ahead}
use Rattle.word.specs.declared.value.Word.TheVariants.{Int}
use Rattle.goroutine_vm_base.proofs.call_stack.call_next_with.Goals as goal

pub returns-clause-ok : goal.returns-clause-ok
returns-clause-ok c = λ x here.
    let xs = c.args.frames.now in
    let p = c.args.place in
    let same : to_z w64 (of_z w64 c.args.number) ≡ c.args.number = search rules in
    let front = c.split_at_mut-waiting.ensures.front in
    let back = c.split_at_mut-waiting.ensures.back in
    let is = front_at xs c.split_at_mut-waiting.result.0.now p x c.index-waiting-place.result front here in
    let waits : c.enter_with.new.self ≡ ahead x c.args.next x.stack = c.in_ok-enter_with.ensures.waiting ∙ ap (λ (y : Frame). ahead y c.args.next y.stack) is in
    let called : c.enter_with.new.called ≡ begun c.args.locals.now c.args.function (Int c.args.number ∷ []) = c.in_ok-enter_with.ensures.called ∙ ap (λ (z : ℤ). begun c.args.locals.now c.args.function (Int z ∷ [])) same in
    ap (λ (l : Frames). slice_set l p c.enter_with.new.self ++ slice_set c.split_at_mut-waiting.result.1.now 0 c.enter_with.new.called) front
    ∙ ap (λ (l : Frames). slice_set (take (p + 1) xs) p c.enter_with.new.self ++ slice_set l 0 c.enter_with.new.called) back
    ∙ both_put xs p c.enter_with.new.self c.enter_with.new.called c.requires.within
    ∙ ap (λ (y : Frame). take p xs ++ y ∷ (c.enter_with.new.called ∷ drop (p + 2) xs)) waits
    ∙ ap (λ (y : Frame). take p xs ++ ahead x c.args.next x.stack ∷ (y ∷ drop (p + 2) xs)) called
