use Rattle.std.proofs.Common.{◌≡◌, ℕ, Some, slice_get, length}
use Rattle.type_table.specs.declared.width.Mark.{Mark}
use Rattle.type_table.specs.declared.width.Mark.TheVariants.{New}
use Rattle.type_table.proofs.width.new_marks.Given as goal

abbrev pub invariant-loop-number : goal.invariant-loop-number
invariant-loop-number l = record {
  count : length l.marks.items ≡ l.number;
  new : (o : ℕ) → (m : Mark) → slice_get l.marks.items o ≡ Some m → m ≡ New;
}
