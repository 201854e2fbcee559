use Rattle.std.proofs.Common.{take}
use Rattle.trace_comparison.specs.Counting.{AreCounts}
use Rattle.trace_comparison.specs.Requests.{events_of, AreFirst}
use Rattle.trace_comparison.proofs.unmatched.first_unmatched.Given as goal

abbrev pub invariant-loop-index : goal.invariant-loop-index
invariant-loop-index l =
    record { first : AreFirst (take l.index (events_of l.lines)) (events_of l.others); counts : AreCounts l.counts (take l.index (events_of l.lines)) }
