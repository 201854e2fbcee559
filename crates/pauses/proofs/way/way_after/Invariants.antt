use Rattle.std.proofs.Common.{◌≡◌, [], length}
use Rattle.pauses.specs.Paused.{way_after}
use Rattle.pauses.proofs.way.way_after.Given as goal

abbrev pub decreases-loop-first : goal.decreases-loop-first
decreases-loop-first l = length l.left

abbrev pub invariant-loop-first : goal.invariant-loop-first
invariant-loop-first l = way_after [] l.words ≡ way_after l.way.items l.left
