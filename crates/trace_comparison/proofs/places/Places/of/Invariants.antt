use Rattle.std.proofs.Common.{◌+◌, take}
use Rattle.std.specs.BTreeMap.{get}
use Rattle.trace_comparison.specs.Counting.{AreCounts, name_cmp}
use Rattle.trace_comparison.specs.Requests.{events_of, IsEventIfAny}
use Rattle.trace_comparison.specs.declared.places.Name.{Name}
use Rattle.trace_comparison.proofs.places.Places.of.Given as goal

abbrev pub invariant-loop-index : goal.invariant-loop-index
invariant-loop-index l =
    record { places : (name : Name) → IsEventIfAny (take l.index (events_of l.lines)) name.goroutine (name.before + 1) (get name_cmp l.events name); counts : AreCounts l.counts (take l.index (events_of l.lines)) }
