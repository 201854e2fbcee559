-- How the trace of a run compares with a recorded one.
use Rattle.std.specs.Prelude.{◌≡◌, ◌≢◌, ℕ, ◌+◌, ◌-◌, List, [], map, take, Option, Some, None}
use Rattle.std.specs.List.{slice_get}
use Rattle.trace_comparison.specs.Requests.{Event, requests_of, HaveSameRequests, IsEvent, IsEventIfAny, AreFirst}
use Rattle.trace_comparison.specs.declared.comparison.Comparison.{Comparison}
use Rattle.trace_comparison.specs.declared.comparison.Comparison.TheVariants.{Same, OtherClocks, OtherOrder, Differs}
use Rattle.trace_comparison.specs.declared.comparison.Difference.{Difference}
use Rattle.trace_comparison.specs.declared.line.Part.{Part}
use Rattle.trace_comparison.specs.declared.line.Part.TheVariants as parts
use Rattle.trace_comparison.specs.declared.unmatched.Unmatched.{Unmatched}

-- an event without its line, which has the clock
abbrev pub without_line : Event → Event
without_line e = record e { line = [] }

-- what is looked at of an event
abbrev pub part_of : Part → Event → Event
part_of parts.Request e = without_line e
part_of parts.Line e = e

-- the two lists are the same up to the element of this number, counted from 1, and differ there
abbrev pub IsFirstOther : {X : Type 0} (xs ys : List X) (n : ℕ) → Type 0
IsFirstOther xs ys n = (i : ℕ) × (n ≡ i + 1) × (take i xs ≡ take i ys) × (slice_get xs i ≢ slice_get ys i)

-- request `n` of this goroutine, counted from 1, is another one, or one of them is missing
abbrev pub IsOther : (some all : List Event) (goroutine n : ℕ) → Type 0
IsOther some all g n = slice_get (requests_of g some) (n - 1) ≢ slice_get (requests_of g all) (n - 1)

-- this is what was requested in an event, counted from 1, if there is one
abbrev pub HasRequest : List Event → (event : Option ℕ) → (request : List ℕ) → Type 0
HasRequest es event q = (i : ℕ) × (event ≡ Some (i + 1)) × (e : Event) × (slice_get es i ≡ Some e) × (e.request ≡ q)

-- the first event of `some` that is not, in `all`, the request of that number of its goroutine
abbrev pub IsUnmatched : (some all : List Event) → Option Unmatched → Type 0
IsUnmatched some all None = AreFirst some all
IsUnmatched some all (Some u) = IsEvent some u.goroutine u.number u.event × IsEventIfAny all u.goroutine u.number u.there
    × IsOther some all u.goroutine u.number × AreFirst (take (u.event - 1) some) all

-- before this event of the run, or else before this recorded one, each goroutine requested the same
abbrev pub IsFirst : (recorded run : List Event) → (there event : Option ℕ) → Type 0
IsFirst recorded run there (Some event) = AreFirst (take (event - 1) run) recorded
IsFirst recorded run (Some there) None = AreFirst run recorded × AreFirst (take (there - 1) recorded) run
IsFirst recorded run None None = ⊥

-- the first event at which a goroutine requested something else
abbrev pub IsDifference : (recorded run : List Event) → Difference → Type 0
IsDifference recorded run d = IsEventIfAny run d.goroutine d.number d.event × IsEventIfAny recorded d.goroutine d.number d.recorded
    × IsOther run recorded d.goroutine d.number × IsFirst recorded run d.recorded d.event

-- how the traces compare
abbrev pub IsComparison : (recorded run : List Event) → Comparison → Type 0
IsComparison recorded run Same = run ≡ recorded
IsComparison recorded run (OtherClocks event) = (map without_line run ≡ map without_line recorded) × IsFirstOther run recorded event
IsComparison recorded run (OtherOrder event) = HaveSameRequests run recorded × IsFirstOther (map without_line run) (map without_line recorded) event
IsComparison recorded run (Differs d) = IsDifference recorded run d
