use Rattle.std.proofs.Common.{◌≡◌, ◌+◌, ◌-◌, ◌≤◌, [], ◌∷◌, ◌++◌, ℤ, length, take, drop, reverse, ap, ◌∙◌, sym, arith, rules, to_z, of_z, w64}
use Rattle.std.proofs.lemmas.List.{with_items_is}
use Rattle.bytecode.specs.Machine.{Frames, begun}
use Rattle.goroutine_vm_base.proofs.Stacks.{entered_view, last_is, on_err, some_called, some_deep, written_some, written_view, written_within}
use Rattle.call_frame.specs.Steps.{ahead}
use Rattle.word.specs.declared.value.Word.TheVariants.{Int}
use Rattle.goroutine_vm_base.proofs.call_stack.CallStack.enter_with.Goals as goal

pub returns-clause-ok : goal.returns-clause-ok
returns-clause-ok c = λ x cs is.
    let same : to_z w64 (of_z w64 c.args.number) ≡ c.args.number = search rules in
    let ys = c.as_mut_slice.result.now in
    let d = c.self.inside.depth in
    let all : reverse (take d ys) ≡ x ∷ cs = ap (λ (l : Frames). reverse (take d l)) c.as_mut_slice.ensures.value ∙ ap reverse c.in_ok-keep_one.ensures.same ∙ c.self.view_is ∙ is in
    let some = some_deep ys (x ∷ cs) d all (omega arith) in
    let kept = c.in_ok-keep_one.ensures.kept in
    let many = ap length c.as_mut_slice.ensures.value in
    let within : d ≤ length ys = omega (arith, kept, many) in
    let v = c.keep_one.new.frames in
    let length_is : length c.call_next_with.new.frames ≡ v.len = c.call_next_with.ensures.len ∙ many ∙ sym v.ok.0 in
    ap (λ (l : Frames). reverse (take (d + 1) l)) (with_items_is v c.call_next_with.new.frames length_is)
    ∙ entered_view ys c.call_next_with.new.frames d (ahead x c.args.next x.stack) (begun c.args.locals.now c.args.function (Int c.args.number ∷ [])) x cs some within all
    (c.in_ok-call_next_with.ensures.ok x (last_is ys d x cs some within all).0 ∙ ap (λ (z : ℤ). take (d - 1) ys ++ ahead x c.args.next x.stack ∷ (begun c.args.locals.now c.args.function (Int z ∷ []) ∷ drop ((d - 1) + 2) ys)) same)

pub returns-in_err-keep_one-clause-some : goal.returns-in_err-keep_one-clause-some
returns-in_err-keep_one-clause-some c = some_called c.keep_one.new.frames.items c.self.inside.depth c.self.invariant.1 c.keep_one.ensures.len

pub call_next_with-requires : goal.call_next_with-requires
call_next_with-requires c = record { within = omega (arith, c.in_ok-keep_one.ensures.kept, ap length c.as_mut_slice.ensures.value, c.self.invariant.1) }

pub invariant_of-self-in_err-call_next_with : goal.invariant_of-self-in_err-call_next_with
invariant_of-self-in_err-call_next_with c = (written_within c.keep_one.new.frames c.as_mut_slice.result.now c.call_next_with.new.frames c.self.inside.depth c.self.invariant.1 (omega (arith, c.in_ok-keep_one.ensures.kept, ap length c.as_mut_slice.ensures.value)) c.as_mut_slice.ensures.value c.call_next_with.ensures.len, c.self.invariant.1)

pub returns-in_err-call_next_with-clause-err : goal.returns-in_err-call_next_with-clause-err
returns-in_err-call_next_with-clause-err c =
    let is : reverse (take c.self.inside.depth c.as_mut_slice.result.now) ≡ c.args.self.now = ap (λ (l : Frames). reverse (take c.self.inside.depth l)) c.as_mut_slice.ensures.value ∙ ap reverse c.in_ok-keep_one.ensures.same ∙ c.self.view_is in
    on_err c.from_residual-in_err-call_next_with.result (written_view c.keep_one.new.frames c.as_mut_slice.result.now c.call_next_with.new.frames c.self.inside.depth c.self.invariant.1 (omega (arith, c.in_ok-keep_one.ensures.kept, ap length c.as_mut_slice.ensures.value)) c.as_mut_slice.ensures.value c.call_next_with.ensures.len c.args.self.now c.in_err-call_next_with.ensures.err is)

pub returns-in_err-call_next_with-clause-some : goal.returns-in_err-call_next_with-clause-some
returns-in_err-call_next_with-clause-some c = written_some c.keep_one.new.frames c.as_mut_slice.result.now c.call_next_with.new.frames c.self.inside.depth c.self.invariant.1 (omega (arith, c.in_ok-keep_one.ensures.kept, ap length c.as_mut_slice.ensures.value)) c.as_mut_slice.ensures.value c.call_next_with.ensures.len

pub invariant_of-self-2 : goal.invariant_of-self-2
invariant_of-self-2 c = (written_within c.keep_one.new.frames c.as_mut_slice.result.now c.call_next_with.new.frames (c.self.inside.depth + 1) (omega arith) (omega (arith, c.in_ok-keep_one.ensures.kept, ap length c.as_mut_slice.ensures.value)) c.as_mut_slice.ensures.value c.call_next_with.ensures.len, omega arith)

pub returns-clause-some : goal.returns-clause-some
returns-clause-some c = written_some c.keep_one.new.frames c.as_mut_slice.result.now c.call_next_with.new.frames (c.self.inside.depth + 1) (omega arith) (omega (arith, c.in_ok-keep_one.ensures.kept, ap length c.as_mut_slice.ensures.value)) c.as_mut_slice.ensures.value c.call_next_with.ensures.len
