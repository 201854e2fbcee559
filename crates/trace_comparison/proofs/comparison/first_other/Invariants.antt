use Rattle.std.proofs.Common.{◌≡◌, ◌≤◌, length, map, take}
use Rattle.trace_comparison.specs.Comparing.{part_of}
use Rattle.trace_comparison.specs.Requests.{events_of}
use Rattle.trace_comparison.proofs.comparison.first_other.Given as goal

abbrev pub invariant-loop-index : goal.invariant-loop-index
invariant-loop-index l =
    record { same : take l.index (map (part_of l.part) (events_of l.run)) ≡ take l.index (map (part_of l.part) (events_of l.recorded)); within : l.index ≤ length l.recorded }
