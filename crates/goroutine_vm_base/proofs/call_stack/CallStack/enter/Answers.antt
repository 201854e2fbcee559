use Rattle.std.proofs.Common.{◌≡◌, ◌+◌, ◌<◌, ◌≤◌, ◌∷◌, length, take, drop, reverse, ap, ◌∙◌, sym, arith}
use Rattle.std.proofs.lemmas.List.{with_items_is}
use Rattle.bytecode.specs.Machine.{Frames, begun, goes_on}
use Rattle.goroutine_vm_base.proofs.Stacks.{entered_view, last_is, last_of, on_err, some_called, some_deep, written_some, written_view, written_within}
use Rattle.goroutine_vm_base.proofs.call_stack.CallStack.enter.Goals as goal

-- the frames with a kept one after them are the same call stack
stands : (c : goal.After-as_mut_slice) → reverse (take c.self.inside.depth c.as_mut_slice.result.now) ≡ c.args.self.now
stands c = ap (λ (l : Frames). reverse (take c.self.inside.depth l)) c.as_mut_slice.ensures.value ∙ ap reverse c.in_ok-keep_one.ensures.same ∙ c.self.view_is

deep : (c : goal.After-as_mut_slice) → 0 < c.self.inside.depth
deep c = some_deep c.as_mut_slice.result.now c.args.self.now c.self.inside.depth (stands c) c.requires.some

pub call_next-requires-clause-at : goal.call_next-requires-clause-at
call_next-requires-clause-at c = λ x here. c.requires.at x _ (last_of c.as_mut_slice.result.now c.args.self.now c.self.inside.depth x (deep c) (stands c) here)

pub call_next-requires-clause-place : goal.call_next-requires-clause-place
call_next-requires-clause-place c = λ x here. c.requires.place x _ (last_of c.as_mut_slice.result.now c.args.self.now c.self.inside.depth x (deep c) (stands c) here)

pub returns-clause-ok : goal.returns-clause-ok
returns-clause-ok c = λ x cs is.
    let ys = c.as_mut_slice.result.now in
    let d = c.self.inside.depth in
    let all : reverse (take d ys) ≡ x ∷ cs = ap (λ (l : Frames). reverse (take d l)) c.as_mut_slice.ensures.value ∙ ap reverse c.in_ok-keep_one.ensures.same ∙ c.self.view_is ∙ is in
    let some = some_deep ys (x ∷ cs) d all (omega arith) in
    let kept = c.in_ok-keep_one.ensures.kept in
    let many = ap length c.as_mut_slice.ensures.value in
    let within : d ≤ length ys = omega (arith, kept, many) in
    let v = c.keep_one.new.frames in
    let length_is : length c.call_next.new.frames ≡ v.len = c.call_next.ensures.len ∙ many ∙ sym v.ok.0 in
    ap (λ (l : Frames). reverse (take (d + 1) l)) (with_items_is v c.call_next.new.frames length_is)
    ∙ entered_view ys c.call_next.new.frames d (goes_on x (take c.args.at x.stack)) (begun c.args.locals.now c.args.function (drop c.args.at x.stack)) x cs some within all (c.in_ok-call_next.ensures.ok x (last_is ys d x cs some within all).0)

pub returns-in_err-keep_one-clause-some : goal.returns-in_err-keep_one-clause-some
returns-in_err-keep_one-clause-some c = some_called c.keep_one.new.frames.items c.self.inside.depth c.self.invariant.1 c.keep_one.ensures.len

pub call_next-requires-clause-within : goal.call_next-requires-clause-within
call_next-requires-clause-within c = omega (arith, c.in_ok-keep_one.ensures.kept, ap length c.as_mut_slice.ensures.value, c.self.invariant.1)

pub invariant_of-self-in_err-call_next : goal.invariant_of-self-in_err-call_next
invariant_of-self-in_err-call_next c = (written_within c.keep_one.new.frames c.as_mut_slice.result.now c.call_next.new.frames c.self.inside.depth c.self.invariant.1 (omega (arith, c.in_ok-keep_one.ensures.kept, ap length c.as_mut_slice.ensures.value)) c.as_mut_slice.ensures.value c.call_next.ensures.len, c.self.invariant.1)

pub returns-in_err-call_next-clause-err : goal.returns-in_err-call_next-clause-err
returns-in_err-call_next-clause-err c =
    let is : reverse (take c.self.inside.depth c.as_mut_slice.result.now) ≡ c.args.self.now = ap (λ (l : Frames). reverse (take c.self.inside.depth l)) c.as_mut_slice.ensures.value ∙ ap reverse c.in_ok-keep_one.ensures.same ∙ c.self.view_is in
    on_err c.from_residual-in_err-call_next.result (written_view c.keep_one.new.frames c.as_mut_slice.result.now c.call_next.new.frames c.self.inside.depth c.self.invariant.1 (omega (arith, c.in_ok-keep_one.ensures.kept, ap length c.as_mut_slice.ensures.value)) c.as_mut_slice.ensures.value c.call_next.ensures.len c.args.self.now c.in_err-call_next.ensures.err is)

pub returns-in_err-call_next-clause-some : goal.returns-in_err-call_next-clause-some
returns-in_err-call_next-clause-some c = written_some c.keep_one.new.frames c.as_mut_slice.result.now c.call_next.new.frames c.self.inside.depth c.self.invariant.1 (omega (arith, c.in_ok-keep_one.ensures.kept, ap length c.as_mut_slice.ensures.value)) c.as_mut_slice.ensures.value c.call_next.ensures.len

pub invariant_of-self-2 : goal.invariant_of-self-2
invariant_of-self-2 c = (written_within c.keep_one.new.frames c.as_mut_slice.result.now c.call_next.new.frames (c.self.inside.depth + 1) (omega arith) (omega (arith, c.in_ok-keep_one.ensures.kept, ap length c.as_mut_slice.ensures.value)) c.as_mut_slice.ensures.value c.call_next.ensures.len, omega arith)

pub returns-clause-some : goal.returns-clause-some
returns-clause-some c = written_some c.keep_one.new.frames c.as_mut_slice.result.now c.call_next.new.frames (c.self.inside.depth + 1) (omega arith) (omega (arith, c.in_ok-keep_one.ensures.kept, ap length c.as_mut_slice.ensures.value)) c.as_mut_slice.ensures.value c.call_next.ensures.len
