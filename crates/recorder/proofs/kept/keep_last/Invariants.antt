use Rattle.std.proofs.Common.{◌≡◌, ◌≤◌, ◌⊎◌, ◌-◌, ◌^◌, length}
use Rattle.recorder.specs.Recorded.{HasRecorded}
use Rattle.recorder.proofs.kept.keep_last.Given as goal

abbrev pub invariant-rounds : goal.invariant-rounds
invariant-rounds g l =
    HasRecorded l.initial.book.code l.initial.book.limit l.book l.latest.before l.latest.events.items × (length l.latest.events.items ≤ l.initial.most)
    × ((l.latest.before ≡ 0) ⊎ (length l.latest.events.items ≡ l.initial.most))

abbrev pub decreases-rounds : goal.decreases-rounds
decreases-rounds g l = 2 ^ 128 - l.counter
