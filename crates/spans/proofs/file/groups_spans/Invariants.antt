use Rattle.std.proofs.Common.{◌≡◌, ◌+◌, ◌++◌, drop, map, sum_by}
use Rattle.syntax.specs.View.{declared_of}
use Rattle.spans.specs.Words.{group_step}
use Rattle.spans.specs.Places.{groups_spans}
use Rattle.spans.proofs.file.groups_spans.Given as goal

abbrev pub invariant-loop-group : goal.invariant-loop-group
invariant-loop-group l =
    (l.count + sum_by group_step (map declared_of (drop l.group-index l.groups)) ≡ sum_by group_step (map declared_of l.groups))
    × (l.spans.items ++ groups_spans l.tokens (l.at + l.count) (map declared_of (drop l.group-index l.groups))
    ≡ l.fn.spans.items ++ groups_spans l.tokens l.at (map declared_of l.groups))
