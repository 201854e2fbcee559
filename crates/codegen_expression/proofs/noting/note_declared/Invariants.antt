use Rattle.std.proofs.Common.{◌≡◌, ◌+◌, ◌≤◌, drop, length, map, sum_by}
use Rattle.syntax.specs.Measures.{declared_size}
use Rattle.syntax.specs.View.{declared_of}
use Rattle.type_table.specs.Visible.{types_of}
use Rattle.codegen_base.specs.Program.{noting_declared}
use Rattle.codegen_expression.proofs.noting.note_declared.Given as goal

-- what is left comes to what all come to
abbrev pub invariant-loop-group : goal.invariant-loop-group
invariant-loop-group l = record {
  noted : noting_declared (types_of l.fn.table) (map declared_of (drop l.group-index l.fn.groups)) l.elements ≡ noting_declared (types_of l.fn.table) (map declared_of l.fn.groups) l.initial.elements;
  count : length l.elements + sum_by declared_size (map declared_of (drop l.group-index l.fn.groups)) ≤ length l.initial.elements + sum_by declared_size (map declared_of l.fn.groups);
}
