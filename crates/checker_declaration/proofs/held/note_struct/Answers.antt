use Rattle.std.proofs.Common.{◌≡◌, inl, inr, List, Some, slice_get, sym, subst}
use Rattle.std.proofs.lemmas.Result.{on_ok_weaker}
use Rattle.type_table.specs.Containment.{Field, HasStruct}
use Rattle.checker_declaration.proofs.Within.{fields_there}
use Rattle.checker_declaration.proofs.held.note_struct.Goals as goal

pub returns-in-Some : goal.returns-in-Some
returns-in-Some c =
    let there : slice_get c.args.all.now c.args.number ≡ Some c.in-Some.parts.now = sym c.in-Some.ensures in
    on_ok_weaker c.note_fields.result (λ noted types j t h. elim (noted types j t h) [
      | inl e ↦ inl e
      | inr has ↦ inr (subst (λ (fields : List Field). HasStruct fields t) (sym (fields_there types c.args.all.now c.args.number c.in-Some.parts.now there)) (rw c.as_slice.ensures.value at has))
    ]) c.note_fields.ensures
