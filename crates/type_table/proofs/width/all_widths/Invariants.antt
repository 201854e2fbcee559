use Rattle.std.proofs.Common.{◌≡◌, ℕ, suc, Some, slice_get, length}
use Rattle.type_table.specs.declared.width.Mark.TheVariants.{Open}
use Rattle.type_table.specs.Marks.{wides, IsWide, Stands}
use Rattle.type_table.specs.Views.{names_of, structs_of}
use Rattle.type_table.proofs.width.all_widths.Given as goal

abbrev pub invariant-loop-number : goal.invariant-loop-number
invariant-loop-number l = record {
  closed : (o : ℕ) → slice_get l.marks o ≡ Some Open → ⊥;
  all : length l.marks ≡ length l.structs;
  stands : Stands (structs_of (names_of l.structs) l.structs) l.marks;
  count : length l.all.items ≡ l.number;
  known : (s w : ℕ) → slice_get l.all.items s ≡ Some w → IsWide (structs_of (names_of l.structs) l.structs) (suc (wides l.marks)) s w;
}
