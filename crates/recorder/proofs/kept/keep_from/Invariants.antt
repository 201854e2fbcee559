use Rattle.std.proofs.Common.{◌≡◌, ◌≤◌, ◌⊎◌, ◌-◌, ◌^◌, [], None, length}
use Rattle.recorder.specs.Recorded.{HasRecorded}
use Rattle.recorder.proofs.kept.keep_from.Given as goal

abbrev pub invariant-rounds : goal.invariant-rounds
invariant-rounds g l =
    HasRecorded l.initial.book.code l.initial.book.limit l.book l.kept.before l.kept.events.items × (length l.kept.events.items ≤ l.initial.most)
    × ((l.kept.before ≡ l.initial.skip) ⊎ ((l.kept.before ≤ l.initial.skip) × (l.kept.events.items ≡ []))) × (l.kept.end ≡ None)

abbrev pub decreases-rounds : goal.decreases-rounds
decreases-rounds g l = 2 ^ 128 - l.counter
