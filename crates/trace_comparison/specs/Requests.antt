-- What goroutines request in a trace.
use Rattle.std.specs.Prelude.{◌≡◌, ℕ, ◌+◌, ◌<◌, ◌==◌, List, map, length, take, Option, Some, None}
use Rattle.std.specs.List.{filter, slice_get}
use Rattle.trace_comparison.specs.declared.line.TraceLine.{TraceLine}

-- a goroutine's request, and the whole line that records it
pub record Event : Type 0 where
  pub goroutine : ℕ
  pub request : List ℕ
  pub line : List ℕ

abbrev pub event_of : TraceLine → Event
event_of line = record { goroutine = line.goroutine; request = line.request.now; line = line.line.now }

abbrev pub events_of : List TraceLine → List Event
events_of lines = map event_of lines

-- what a goroutine requested in these events, in order
abbrev pub requests_of : (goroutine : ℕ) → List Event → List (List ℕ)
requests_of g es = map (λ (e : Event). e.request) (filter (λ (e : Event). e.goroutine == g) es)

-- each goroutine requested the same, in the same order
abbrev pub HaveSameRequests : (run recorded : List Event) → Type 0
HaveSameRequests run recorded = (g : ℕ) → requests_of g run ≡ requests_of g recorded

-- event `e` is request `n` of this goroutine; both are counted from 1
abbrev pub IsEvent : List Event → (goroutine n e : ℕ) → Type 0
IsEvent es g n e = (i : ℕ) × (e ≡ i + 1) × (x : Event) × (slice_get es i ≡ Some x) × (x.goroutine ≡ g) × (length (requests_of g (take i es)) + 1 ≡ n)

-- the event of this goroutine's request `n`, or `None` if it makes fewer
abbrev pub IsEventIfAny : List Event → (goroutine n : ℕ) → Option ℕ → Type 0
IsEventIfAny es g n None = length (requests_of g es) < n
IsEventIfAny es g n (Some e) = IsEvent es g n e

-- what each goroutine requested in `some` is what it first requested in `all`
abbrev pub AreFirst : (some all : List Event) → Type 0
AreFirst some all = (g : ℕ) → take (length (requests_of g some)) (requests_of g all) ≡ requests_of g some
