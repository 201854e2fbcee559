use Rattle.std.proofs.Common.{◌≡◌, ◌+◌, drop, map}
use Rattle.syntax.specs.Tree.{expressions}
use Rattle.syntax.specs.Measures.{expressions_size}
use Rattle.syntax.specs.View.{expression_of}
use Rattle.checker_base.proofs.operand.values_size.Given as goal

abbrev pub invariant-loop-value : goal.invariant-loop-value
invariant-loop-value l = l.size + expressions_size (expressions (map expression_of (drop l.value-index l.values))) ≡ expressions_size (expressions (map expression_of l.values))
