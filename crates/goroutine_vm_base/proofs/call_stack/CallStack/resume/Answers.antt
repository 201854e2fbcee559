use Rattle.std.proofs.Common.{◌≡◌, ◌-◌, ◌<◌, ◌≤◌, length, take, reverse, ap, ◌∙◌, subst, sym, arith}
use Rattle.std.proofs.lemmas.List.{with_items_is}
use Rattle.bytecode.specs.Machine.{Frames}
use Rattle.goroutine_vm_base.specs.Steps.{Resumes}
use Rattle.goroutine_vm_base.proofs.Stacks.{deep_is, resumed_view}
use Rattle.goroutine_vm_base.proofs.call_stack.CallStack.resume.Goals as goal

pub returns-clause-ok : goal.returns-clause-ok
returns-clause-ok c =
    let xs = c.as_mut_slice.result.now in
    let d = c.self.inside.depth in
    let v = c.self.inside.frames in
    let old = c.args.self.now in
    let all : reverse (take d xs) ≡ old = ap (λ (l : Frames). reverse (take d l)) c.as_mut_slice.ensures.value ∙ c.self.view_is in
    let same = ap length c.as_mut_slice.ensures.value in
    let bound = c.self.invariant.0 in
    let within : d ≤ length xs = omega (arith, same, bound) in
    let deep = deep_is xs old d within all in
    let most = c.requires in
    let some : 1 < d = omega (arith, deep, most) in
    let length_is : length c.return_next.new.frames ≡ v.len = c.in_ok-return_next.ensures.len ∙ same ∙ sym v.ok.0 in
    subst (λ (l : Frames). Resumes old (reverse (take (d - 1) l))) (sym (with_items_is v c.return_next.new.frames length_is))
    (resumed_view xs c.return_next.new.frames old d some within all c.in_ok-return_next.ensures.ok)
