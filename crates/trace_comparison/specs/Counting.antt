-- Maps of goroutines and requests in memory.
use Rattle.std.specs.Prelude.{◌≡◌, ◌↔◌, ℕ, ◌+◌, ◌<◌, suc, zero, List, Option, Some, None, length}
use Rattle.std.specs.List.{Contains}
use Rattle.std.specs.List.Sorted.{IsStrictlySortedBy}
use Rattle.std.specs.Ordering.{nat_cmp, ordering_then}
use Rattle.std.specs.declared.cmp.Ordering.{Ordering}
use Rattle.std.specs.BTreeMap.{get}
use Rattle.trace_comparison.specs.Requests.{Event, requests_of, IsEventIfAny}
use Rattle.trace_comparison.specs.declared.counts.Counts.{Counts}
use Rattle.trace_comparison.specs.declared.places.Name.{Name}
use Rattle.trace_comparison.specs.declared.places.Places.{Places}

-- how a map counts
abbrev pub counted : ℕ → Option ℕ
counted zero = None
counted (suc n) = Some (suc n)

-- these are, for each goroutine that makes requests in these events, how many
abbrev pub AreCounts : Counts → List Event → Type 0
AreCounts counts es = (g : ℕ) → get nat_cmp counts.counts g ≡ counted (length (requests_of g es))

-- `n` goroutines make requests in these events: in ascending order they are a list of length `n`
abbrev pub HasGoroutines : List Event → (n : ℕ) → Type 0
HasGoroutines es n = (gs : List ℕ) × IsStrictlySortedBy nat_cmp gs × ((g : ℕ) → Contains gs g ↔ (0 < length (requests_of g es))) × (length gs ≡ n)

abbrev pub name_cmp : Name → Name → Ordering
name_cmp a b = ordering_then (nat_cmp a.goroutine b.goroutine) (nat_cmp a.before b.before)

abbrev pub event_at : Places → Name → Option ℕ
event_at places name = get name_cmp places.events name

-- these are the events of all requests, and how many each goroutine makes
abbrev pub ArePlaces : Places → List Event → Type 0
ArePlaces places es = ((name : Name) → IsEventIfAny es name.goroutine (name.before + 1) (event_at places name)) × AreCounts places.counts es
