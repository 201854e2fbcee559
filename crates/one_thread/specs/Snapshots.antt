-- A run that was stopped at a moment.
use Rattle.std.specs.Prelude.{◌≡◌, ℕ, ◌<◌, ◌≤◌, List, [], ◌∷◌, Option, Some, None, option_map}
use Rattle.std.specs.Option.{option_or}
use Rattle.logical_clock.specs.declared.key.Key.{Key}
use Rattle.logical_clock.specs.Order.{keys, least}
use Rattle.reference_world.specs.Deeds.{SharedValue}
use Rattle.word.specs.Values.{Event}
use Rattle.word.specs.Views.{event_of}
use Rattle.word.specs.declared.end.End.{End as Ending}
use Rattle.word.specs.declared.request.Event.{Event as Recorded}
use Rattle.word.specs.declared.end.End.TheVariants.{Finished, Panicked, Deadlock, Exhausted}
use Rattle.word.specs.Kinds.{GoroutineKind}
use Rattle.word.specs.Worlds.{end_of, moment}
use Rattle.one_thread.specs.declared.goroutine.Goroutine.{Goroutine}
use Rattle.one_thread.specs.declared.snapshot.Until.{Until}
use Rattle.one_thread.specs.declared.snapshot.Until.TheVariants as untils
use Rattle.one_thread.specs.Histories.{OpenValue}
use Rattle.one_thread.specs.Places.{clock_of}
use Rattle.one_thread.specs.Worlds.{IsWorldOf}

-- the last one of these events
abbrev pub newest : List Event → Option Event
newest [] = None
newest (e ∷ []) = Some e
newest (e ∷ (f ∷ es)) = newest (f ∷ es)

module _ {S : Type 0} (K : GoroutineKind) (held : S → K.State) where
  -- the goroutines, what they share and the last event are those of the run's world after some moves
  pub record IsMoment (limit : ℕ) (places : List (Option (Goroutine S))) (v : SharedValue) (last : Option Event) : Type 0 where
    pub moves : ℕ
    pub world : IsWorldOf K held (moment K limit moves) places v
    pub event : newest (moment K limit moves).shared.shared.events ≡ last

  -- they are those of a world in which the run has ended so, or goes on
  abbrev pub IsMomentAt : ℕ → List (Option (Goroutine S)) → SharedValue → Option Event → Option Ending → Type 0
  IsMomentAt limit places v last end = (m : IsMoment limit places v last) × (end_of (moment K limit m.moves) ≡ end)

  -- likewise; of a run whose time is exhausted only its end is known
  abbrev pub IsSeen : ℕ → List (Option (Goroutine S)) → SharedValue → Option Event → Option Ending → Type 0
  IsSeen limit places v last (Some Exhausted) = (n : ℕ) × (end_of (moment K limit n) ≡ Some Exhausted)
  IsSeen limit places v last (Some Finished) = IsMomentAt limit places v last (Some Finished)
  IsSeen limit places v last (Some Deadlock) = IsMomentAt limit places v last (Some Deadlock)
  IsSeen limit places v last (Some (Panicked cause)) = IsMomentAt limit places v last (Some (Panicked cause))
  IsSeen limit places v last None = IsMomentAt limit places v last None

-- a run has come so far, after this many events, before this turn
abbrev pub IsFar : Until → ℕ → Key → Type 0
IsFar (untils.Event n) events turn = n ≤ events
IsFar (untils.Clock c) events turn = c < turn.clock

-- a run that goes on has come so far: the event has this number, or the goroutine that moves next does so at a later clock
abbrev pub IsReached : {S : Type 0} → Until → List (Option (Goroutine S)) → SharedValue → Type 0
IsReached (untils.Event n) places v = v.events ≡ n
IsReached (untils.Clock c) places v = (turn : Key) → least (keys clock_of 0 places) ≡ Some turn → c < turn.clock

-- a run has not come further
abbrev pub IsNotPast : Until → SharedValue → Option Event → Type 0
IsNotPast (untils.Event n) v last = v.events ≤ n
IsNotPast (untils.Clock c) v None = Unit {0}
IsNotPast (untils.Clock c) v (Some e) = e.clock ≤ c

-- the run has come so far as it should, before a goroutine's turn; one that should go on to its end never has
abbrev pub IsFarBefore : Option Until → ℕ → Key → Type 0
IsFarBefore None events turn = ⊥
IsFarBefore (Some until) events turn = IsFar until events turn

abbrev pub IsThere : {S : Type 0} → Option Until → OpenValue S → Type 0
IsThere until run = (turn : Key) × (least (keys clock_of 0 run.places) ≡ Some turn) × IsFarBefore until run.shared.events turn

-- a run that was not past the moment is not past it after this event, if there was one
abbrev pub StaysBefore : Option Until → (old : SharedValue) → Option Recorded → (new : SharedValue) → Type 0
StaysBefore None old found new = Unit {0}
StaysBefore (Some until) old found new = (last : Option Recorded) → IsNotPast until old (option_map event_of last) → IsNotPast until new (option_map event_of (option_or found last))
