use Rattle.std.proofs.Common.{◌≡◌, ◌+◌, ◌++◌, drop, map}
use Rattle.syntax.specs.Tree.{expressions}
use Rattle.syntax.specs.View.{expression_of}
use Rattle.spans.specs.Words.{values_count}
use Rattle.spans.specs.Places.{values_spans}
use Rattle.spans.proofs.expression.+expression_spans.Given as goal

abbrev pub invariant-values_spans-loop-value : goal.invariant-values_spans-loop-value
invariant-values_spans-loop-value l =
    (l.count + values_count (expressions (map expression_of (drop l.value-index l.values))) ≡ values_count (expressions (map expression_of l.values)))
    × (l.spans.items ++ values_spans l.tokens (l.at + l.count) (expressions (map expression_of (drop l.value-index l.values)))
    ≡ l.fn.spans.items ++ values_spans l.tokens l.at (expressions (map expression_of l.values)))
