use Rattle.std.proofs.Common.{◌≡◌, ℕ, List, Some, slice_get}
use Rattle.type_table.specs.Containment.{Holds}
use Rattle.checker_declaration.specs.Parts.{structs_in, IsWithin}
use Rattle.checker_declaration.proofs.held.contains_itself.Given as goal

abbrev pub invariant-loop-at : goal.invariant-loop-at
invariant-loop-at l = record {
  next : (types : List (List ℕ)) → IsWithin (structs_in types l.all) l.number l.next;
  found : (types : List (List ℕ)) (j t : ℕ) → slice_get l.found.items j ≡ Some t → Holds (structs_in types l.all) l.number t;
}
