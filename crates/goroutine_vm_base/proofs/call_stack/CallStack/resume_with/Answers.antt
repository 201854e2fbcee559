use Rattle.std.proofs.Common.{◌≡◌, ◌∙◌, ◌++◌, [], ◌∷◌, ℤ, ap, rules, to_z, of_z, w64}
use Rattle.goroutine_vm_base.proofs.Stacks.{resumed_with}
use Rattle.word.specs.declared.value.Word.TheVariants.{Int}
use Rattle.goroutine_vm_base.proofs.call_stack.CallStack.resume_with.Goals as goal

pub returns-clause-ok : goal.returns-clause-ok
returns-clause-ok c =
    let same : to_z w64 (of_z w64 c.args.number) ≡ c.args.number = search rules in
    let r = c.index_mut.result.now in
    resumed_with c.self.inside.frames.items c.args.self.now c.self.inside.depth r c.push_number.new.self c.args.number c.requires c.self.invariant.0 c.self.view_is c.index_mut.ensures.value
    (c.in_ok-push_number.ensures.ok ∙ ap (λ (z : ℤ). record r { stack = r.stack ++ Int z ∷ [] }) same)
