use Rattle.std.proofs.Common.{◌≡◌, ◌+◌, ◌≤◌, [], drop, length, map, sum_by}
use Rattle.syntax.specs.Measures.{top_size}
use Rattle.syntax.specs.View.{top_of}
use Rattle.type_table.specs.Visible.{types_of}
use Rattle.codegen_base.specs.Program.{noting_tops}
use Rattle.codegen_expression.proofs.noting.elements_in.Given as goal

-- what is left comes to what all come to
abbrev pub invariant-loop-top : goal.invariant-loop-top
invariant-loop-top l = record {
  noted : noting_tops (types_of l.fn.table) (map top_of (drop l.top-index l.fn.tops)) l.elements ≡ noting_tops (types_of l.fn.table) (map top_of l.fn.tops) [];
  count : length l.elements + sum_by top_size (map top_of (drop l.top-index l.fn.tops)) ≤ sum_by top_size (map top_of l.fn.tops);
}
