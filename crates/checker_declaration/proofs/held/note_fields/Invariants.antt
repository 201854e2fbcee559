use Rattle.std.proofs.Common.{◌≡◌, ℕ, ◌⊎◌, List, Some, slice_get}
use Rattle.type_table.specs.Containment.{HasStruct}
use Rattle.checker_declaration.specs.Parts.{fields_in}
use Rattle.checker_declaration.proofs.held.note_fields.Given as goal

abbrev pub invariant-loop-part : goal.invariant-loop-part
invariant-loop-part l = (types : List (List ℕ)) (j t : ℕ) → slice_get l.found.items j ≡ Some t → (slice_get l.initial.found.items j ≡ Some t) ⊎ HasStruct (fields_in types l.fields) t
