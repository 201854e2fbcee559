use Rattle.std.proofs.Common.{◌≡◌, ◌+◌, ◌++◌, drop, map, sum_by}
use Rattle.syntax.specs.View.{top_of}
use Rattle.spans.specs.Words.{top_step}
use Rattle.spans.specs.Places.{tops_spans}
use Rattle.spans.proofs.file.tops_spans.Given as goal

abbrev pub invariant-loop-top : goal.invariant-loop-top
invariant-loop-top l =
    (l.count + sum_by top_step (map top_of (drop l.top-index l.tops)) ≡ sum_by top_step (map top_of l.tops))
    × (l.spans.items ++ tops_spans l.tokens (l.at + l.count) (map top_of (drop l.top-index l.tops))
    ≡ l.fn.spans.items ++ tops_spans l.tokens l.at (map top_of l.tops))
