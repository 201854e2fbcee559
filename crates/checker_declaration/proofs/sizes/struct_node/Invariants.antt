use Rattle.std.proofs.Common.{◌≡◌, ◌+◌, drop, map, sum_by}
use Rattle.syntax.specs.Measures.{top_size}
use Rattle.syntax.specs.View.{top_of}
use Rattle.typing_rules.specs.Declarations.{struct_node}
use Rattle.checker_declaration.proofs.sizes.struct_node.Given as goal

abbrev pub invariant-loop-top : goal.invariant-loop-top
invariant-loop-top l = record {
  size : l.first + sum_by top_size (map top_of (drop l.top-index l.tops)) ≡ sum_by top_size (map top_of l.tops);
  found : struct_node l.first (map top_of (drop l.top-index l.tops)) l.left ≡ struct_node 0 (map top_of l.tops) l.number;
}
