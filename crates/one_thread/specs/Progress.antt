-- How near its end a run is: each move leaves less of something.
use Rattle.std.specs.Prelude.{◌≡◌, ℕ, ◌+◌, ◌-◌, ◌<◌, ◌^◌, Bool, true, false, List, Option, Some, None, sum_by}
use Rattle.reference_world.specs.Deeds.{SharedValue}
use Rattle.word.specs.declared.end.End.{End as Ending}
use Rattle.word.specs.declared.request.Event.{Event as Recorded}
use Rattle.one_thread.specs.declared.goroutine.Goroutine.{Goroutine}
use Rattle.one_thread.specs.declared.goroutine.Turn.{Turn}
use Rattle.one_thread.specs.declared.goroutine.Turn.TheVariants as turns
use Rattle.one_thread.specs.declared.move_kind.Move.{Move}
use Rattle.one_thread.specs.declared.move_kind.Move.TheVariants as moves
use Rattle.one_thread.specs.declared.move_kind.MoveSeen.{MoveSeen}
use Rattle.one_thread.specs.declared.move_kind.MoveSeen.TheVariants as seen
use Rattle.one_thread.specs.declared.snapshot.Until.{Until}
use Rattle.one_thread.specs.Histories.{OpenValue}
use Rattle.one_thread.specs.Snapshots.{IsThere}

-- ---- what a move was

abbrev pub is_slide : Move → Bool
is_slide moves.Slide = true
is_slide moves.Tick = false
is_slide moves.Event = false
is_slide (moves.Last end) = false

abbrev pub is_tick : Move → Bool
is_tick moves.Slide = false
is_tick moves.Tick = true
is_tick moves.Event = false
is_tick (moves.Last end) = false

-- the end of the run, if it has ended
abbrev pub ending_in : Move → Option Ending
ending_in moves.Slide = None
ending_in moves.Tick = None
ending_in moves.Event = None
ending_in (moves.Last end) = Some end

-- a request was performed, after which the run goes on or has ended so
abbrev pub performed : Option Ending → Move
performed None = moves.Event
performed (Some end) = moves.Last end

abbrev pub is_slide_seen : MoveSeen → Bool
is_slide_seen seen.Nothing = false
is_slide_seen seen.Slide = true
is_slide_seen seen.Tick = false
is_slide_seen (seen.Event event) = false

abbrev pub is_tick_seen : MoveSeen → Bool
is_tick_seen seen.Nothing = false
is_tick_seen seen.Slide = false
is_tick_seen seen.Tick = true
is_tick_seen (seen.Event event) = false

-- the event, if it was one
abbrev pub event_in : MoveSeen → Option Recorded
event_in seen.Nothing = None
event_in seen.Slide = None
event_in seen.Tick = None
event_in (seen.Event event) = Some event

-- ---- what is left

-- the ticks that a goroutine has left up to the limit
abbrev pub ticks_of : {S : Type 0} → (limit : ℕ) → Option (Goroutine S) → ℕ
ticks_of limit None = 0
ticks_of limit (Some g) = limit - g.clock

-- those of all goroutines
abbrev pub ticks_left : {S : Type 0} → (limit : ℕ) → List (Option (Goroutine S)) → ℕ
ticks_left limit places = sum_by (ticks_of limit) places

-- what a goroutine's state weighs
abbrev pub weight_of : {S : Type 0} → (S → ℕ) → Option (Goroutine S) → ℕ
weight_of weight None = 0
weight_of weight (Some g) = weight g.state

-- what the states of all goroutines weigh
abbrev pub weight_left : {S : Type 0} → (S → ℕ) → List (Option (Goroutine S)) → ℕ
weight_left weight places = sum_by (weight_of weight) places

-- the events that a run has left
abbrev pub events_left : SharedValue → ℕ
events_left v = 2 ^ 62 - v.events

-- one more than these, unless the run has ended
abbrev pub left_after : Option Ending → ℕ → ℕ
left_after None events = events + 1
left_after (Some end) events = 0

-- how many events an open run has left at most, and one
abbrev pub left_in : {S : Type 0} → OpenValue S → ℕ
left_in run = left_after run.end (events_left run.shared)

-- ---- what falls

-- a goroutine that slides weighs less, and one that ticks has fewer ticks left
abbrev pub FallsInTurn : {S : Type 0} → (S → ℕ) → (limit : ℕ) → Turn → (old new : Goroutine S) → Type 0
FallsInTurn weight limit turns.Slid old new = (weight new.state < weight old.state) × (new.clock ≡ old.clock)
FallsInTurn weight limit turns.Ticked old new = limit - new.clock < limit - old.clock
FallsInTurn weight limit (turns.Asks request clock) old new = Unit {0}
FallsInTurn weight limit turns.Exhausted old new = Unit {0}

-- so do all goroutines together
abbrev pub TurnFalls : {S : Type 0} → (S → ℕ) → (limit : ℕ) → Turn → (old new : List (Option (Goroutine S))) → Type 0
TurnFalls weight limit turns.Slid old new = (weight_left weight new < weight_left weight old) × (ticks_left limit new ≡ ticks_left limit old)
TurnFalls weight limit turns.Ticked old new = ticks_left limit new < ticks_left limit old
TurnFalls weight limit (turns.Asks request clock) old new = Unit {0}
TurnFalls weight limit turns.Exhausted old new = Unit {0}

-- a slide leaves less weight, a tick fewer ticks, and an event fewer events
abbrev pub MoveFalls : {S : Type 0} → (S → ℕ) → (limit : ℕ) → Move → (old : List (Option (Goroutine S))) (v : SharedValue) (new : List (Option (Goroutine S))) (v' : SharedValue) → Type 0
MoveFalls weight limit moves.Slide old v new v' = (weight_left weight new < weight_left weight old) × (ticks_left limit new ≡ ticks_left limit old) × (v' ≡ v)
MoveFalls weight limit moves.Tick old v new v' = (ticks_left limit new < ticks_left limit old) × (v' ≡ v)
MoveFalls weight limit moves.Event old v new v' = events_left v' < events_left v
MoveFalls weight limit (moves.Last end) old v new v' = Unit {0}

-- like `MoveFalls`, of moves of which the last alone is no slide
abbrev pub TickFalls : {S : Type 0} → (limit : ℕ) → Move → (old : List (Option (Goroutine S))) (v : SharedValue) (new : List (Option (Goroutine S))) (v' : SharedValue) → Type 0
TickFalls limit moves.Slide old v new v' = ⊥
TickFalls limit moves.Tick old v new v' = (ticks_left limit new < ticks_left limit old) × (v' ≡ v)
TickFalls limit moves.Event old v new v' = events_left v' < events_left v
TickFalls limit (moves.Last end) old v new v' = Unit {0}

-- a request was performed
abbrev pub EventFalls : Move → (v v' : SharedValue) → Type 0
EventFalls moves.Slide v v' = ⊥
EventFalls moves.Tick v v' = ⊥
EventFalls moves.Event v v' = events_left v' < events_left v
EventFalls (moves.Last end) v v' = Unit {0}

-- ---- what falls in an open run, up to a moment

-- without an event the run has ended or is at the moment; after one fewer events are left, unless it was the last one
abbrev pub EventSeenFalls : {S : Type 0} → Option Until → Option Recorded → (old new : OpenValue S) → Type 0
EventSeenFalls until None old new = new.end ≡ None → IsThere until new
EventSeenFalls until (Some event) old new = new.end ≡ None → events_left new.shared < events_left old.shared

-- like `EventSeenFalls`, or a tick leaves fewer ticks
abbrev pub TickSeenFalls : {S : Type 0} → Option Until → MoveSeen → (old new : OpenValue S) → Type 0
TickSeenFalls until seen.Nothing old new = EventSeenFalls until None old new
TickSeenFalls until seen.Slide old new = ⊥
TickSeenFalls until seen.Tick old new = (ticks_left old.limit new.places < ticks_left old.limit old.places) × (new.shared ≡ old.shared) × (new.end ≡ None)
TickSeenFalls until (seen.Event event) old new = EventSeenFalls until (Some event) old new

-- like `TickSeenFalls`, or a slide leaves less weight
abbrev pub SeenFalls : {S : Type 0} → (S → ℕ) → Option Until → MoveSeen → (old new : OpenValue S) → Type 0
SeenFalls weight until seen.Nothing old new = EventSeenFalls until None old new
SeenFalls weight until seen.Slide old new = (weight_left weight new.places < weight_left weight old.places) × (ticks_left old.limit new.places ≡ ticks_left old.limit old.places) × (new.shared ≡ old.shared) × (new.end ≡ None)
SeenFalls weight until seen.Tick old new = TickSeenFalls until seen.Tick old new
SeenFalls weight until (seen.Event event) old new = EventSeenFalls until (Some event) old new
