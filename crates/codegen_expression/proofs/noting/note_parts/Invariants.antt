use Rattle.std.proofs.Common.{◌≡◌, ◌+◌, ◌≤◌, drop, length, map}
use Rattle.std.specs.Prelude.{sum_by}
use Rattle.syntax.specs.Measures.{part_size}
use Rattle.syntax.specs.View.{part_of}
use Rattle.type_table.specs.Visible.{types_of}
use Rattle.codegen_base.specs.Program.{noting_parts}
use Rattle.codegen_expression.proofs.noting.note_parts.Given as goal

-- what is left comes to what all come to
abbrev pub invariant-loop-part : goal.invariant-loop-part
invariant-loop-part l = record {
  noted : noting_parts (types_of l.table) (map part_of (drop l.part-index l.parts)) l.elements ≡ noting_parts (types_of l.table) (map part_of l.parts) l.initial.elements;
  count : length l.elements + sum_by part_size (map part_of (drop l.part-index l.parts)) ≤ length l.initial.elements + sum_by part_size (map part_of l.parts);
}
