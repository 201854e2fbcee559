use Rattle.std.proofs.Common.{◌≡◌, ◌+◌, ◌++◌, drop, map, sum_by}
use Rattle.syntax.specs.View.{part_of}
use Rattle.spans.specs.Words.{part_step}
use Rattle.spans.specs.Places.{parts_spans}
use Rattle.spans.proofs.simple.parts_spans.Given as goal

abbrev pub invariant-loop-part : goal.invariant-loop-part
invariant-loop-part l =
    (l.count + sum_by part_step (map part_of (drop l.part-index l.parts)) ≡ sum_by part_step (map part_of l.parts))
    × (l.spans.items ++ parts_spans l.tokens (l.at + l.count) (map part_of (drop l.part-index l.parts))
    ≡ l.fn.spans.items ++ parts_spans l.tokens l.at (map part_of l.parts))
