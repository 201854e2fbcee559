-- A run that is stopped at a moment.
use Rattle.std.proofs.Common.{◌≡◌, inl, inr, ℕ, List, [], ◌∷◌, ◌++◌, Option, Some, None, refl, sym, ap, ◌∙◌, subst, arith}
use Rattle.std.specs.Prelude.{option_map}
use Rattle.std.specs.Option.{option_or}
use Rattle.std.proofs.lemmas.Bool.{cases_lt}
use Rattle.std.proofs.lemmas.Option.{same_Some}
use Rattle.logical_clock.specs.declared.key.Key.{Key}
use Rattle.logical_clock.specs.Order.{keys, least}
use Rattle.reference_world.specs.Deeds.{SharedValue, opened}
use Rattle.word.specs.declared.end.End.{End as Ending}
use Rattle.word.specs.declared.end.End.TheVariants.{Finished, Panicked, Deadlock, Exhausted}
use Rattle.word.specs.declared.request.Event.{Event as Recorded}
use Rattle.word.specs.Values.{Event}
use Rattle.word.specs.Kinds.{GoroutineKind}
use Rattle.word.specs.Views.{event_of}
use Rattle.one_thread.specs.declared.goroutine.Goroutine.{Goroutine}
use Rattle.one_thread.specs.declared.snapshot.Until.{Until}
use Rattle.one_thread.specs.declared.snapshot.Until.TheVariants as untils
use Rattle.one_thread.specs.Histories.{Adds, Counts, HasEnded, HasHistory, HasHad, HasHadTo, IsReady, OpenValue}
use Rattle.one_thread.specs.Places.{clock_of}
use Rattle.one_thread.specs.Snapshots.{IsFar, IsFarBefore, IsNotPast, IsReached, IsSeen, StaysBefore, newest}
use Rattle.one_thread.proofs.Histories.{deserted_history, going_on}
use Rattle.one_thread.proofs.Moves.{runs_on}

-- the newest of events with one more
newest_more : (es : List Event) (e : Event) → newest (es ++ e ∷ []) ≡ Some e
newest_more [] e = refl
newest_more (x ∷ []) e = refl
newest_more (x ∷ (y ∷ es)) e = newest_more (y ∷ es) e

module _ {S : Type 0} (K : GoroutineKind) (held : S → K.State) where
  -- the run has had some events, of which this is the last one
  abbrev pub HasLast : OpenValue S → Option Recorded → Type 0
  HasLast run last = (events : List Event) × (output : List ℕ) × HasHad K held run events output × (newest events ≡ option_map event_of last)

  pub last_more : (old new : OpenValue S) (found last : Option Recorded) → Adds K held old found new → HasLast old last → HasLast new (option_or found last)
  last_more old new None last adds has = (has.0, has.1, adds has.0 has.1 has.2, has.3)
  last_more old new (Some e) last adds has = (_, _, adds has.0 has.1 has.2, newest_more has.0 (event_of e))

  module _ (limit : ℕ) (places : List (Option (Goroutine S))) (v : SharedValue) (events : List Event) (output : List ℕ) (last : Option Event) (is : newest events ≡ last) where
    -- a run that goes on
    pub going_seen : HasHistory K held limit places v events output → v.ending ≡ None → (turn : Key) → least (keys clock_of 0 places) ≡ Some turn → IsSeen K held limit places v last None
    going_seen h going turn first = (
      record { moves = h.moves; world = h.world; event = ap newest h.events ∙ is },
      runs_on K held limit None None places v (record { moves = h.moves; world = h.world; written = tt; goes_on = going }) turn first,
    )

    -- one that has ended
    pub ended_seen : (end : Ending) → HasEnded K held limit places v events output end → IsSeen K held limit places v last (Some end)
    ended_seen Exhausted h = (h.moves, h.end)
    ended_seen Finished h = (record { moves = h.moves; world = h.world; event = ap newest h.events ∙ is }, h.end)
    ended_seen Deadlock h = (record { moves = h.moves; world = h.world; event = ap newest h.events ∙ is }, h.end)
    ended_seen (Panicked cause) h = (record { moves = h.moves; world = h.world; event = ap newest h.events ∙ is }, h.end)

  module _ (run : OpenValue S) (limit : ℕ) (same : run.limit ≡ limit) (last : Option Recorded) (has : HasLast run last) where
    going_history : run.end ≡ None → HasHistory K held limit run.places run.shared has.0 has.1
    going_history goes = subst (λ (k : ℕ). HasHistory K held k run.places run.shared has.0 has.1) same (going_on K held run has.0 has.1 goes has.2)

    -- no goroutine is awake
    pub deserted_seen : run.end ≡ None → IsReady run → least (keys clock_of 0 run.places) ≡ None → IsSeen K held limit run.places run.shared (option_map event_of last) (Some Deadlock)
    deserted_seen goes ready none =
        ended_seen limit run.places run.shared has.0 has.1 (option_map event_of last) has.3 Deadlock (deserted_history K held limit run.places run.shared has.0 has.1 (going_history goes) (ready.going goes) none)

    -- it is a goroutine's turn
    pub stopped_seen : run.end ≡ None → IsReady run → (turn : Key) → least (keys clock_of 0 run.places) ≡ Some turn → IsSeen K held limit run.places run.shared (option_map event_of last) None
    stopped_seen goes ready turn first = going_seen limit run.places run.shared has.0 has.1 (option_map event_of last) has.3 (going_history goes) (ready.going goes) turn first

    pub over_seen : (end : Ending) → run.end ≡ Some end → IsSeen K held limit run.places run.shared (option_map event_of last) (Some end)
    over_seen end over =
        ended_seen limit run.places run.shared has.0 has.1 (option_map event_of last) has.3 end
        (subst (λ (k : ℕ). HasEnded K held k run.places run.shared has.0 has.1 end) same (subst (λ (o : Option Ending). HasHadTo K held o run has.0 has.1) over has.2))

    -- it has ended, or it is a goroutine's turn
    pub rested_seen : IsReady run → (end : Option Ending) → run.end ≡ end → (end ≡ None → (turn : Key) × (least (keys clock_of 0 run.places) ≡ Some turn)) → IsSeen K held limit run.places run.shared (option_map event_of last) end
    rested_seen ready None is next = let first = next refl in stopped_seen is ready first.0 first.1
    rested_seen ready (Some end) is next = over_seen end is

module _ {S : Type 0} (K : GoroutineKind) (held : S → K.State) (limit : ℕ) where
  -- what is equal is seen too
  pub seen_as : (places places' : List (Option (Goroutine S))) (v v' : SharedValue) (last last' : Option Event) (end end' : Option Ending) → places' ≡ places → v' ≡ v → last' ≡ last → end' ≡ end → IsSeen K held limit places v last end → IsSeen K held limit places' v' last' end'
  seen_as places places' v v' last last' end end' p s l e h =
      subst (λ (x : List (Option (Goroutine S))). IsSeen K held limit x v' last' end') (sym p)
      (subst (λ (x : SharedValue). IsSeen K held limit places x last' end') (sym s)
      (subst (λ (x : Option Event). IsSeen K held limit places v x end') (sym l)
      (subst (λ (x : Option Ending). IsSeen K held limit places v last x) (sym e) h)))

-- ---- how far a run has come

-- nothing has happened yet
pub not_past_first : (until : Until) (v : SharedValue) → v ≡ opened → IsNotPast until v None
not_past_first (untils.Event n) v is = rw is (omega arith)
not_past_first (untils.Clock c) v is = tt

whichever : (c : ℕ) (old new : SharedValue) (last : Option Event) → IsNotPast (untils.Clock c) old last → IsNotPast (untils.Clock c) new last
whichever c old new None h = tt
whichever c old new (Some e) h = h

-- one move more, before which the run had not come so far
pub not_past_more : (until : Until) (turn : Key) (old new : SharedValue) (last found : Option Recorded) → (IsFar until old.events turn → ⊥) → IsNotPast until old (option_map event_of last) → Counts turn.clock old found new → IsNotPast until new (option_map event_of (option_or found last))
not_past_more (untils.Event n) turn old new last None far h same = rw same h
not_past_more (untils.Event n) turn old new last (Some e) far h more = elim (cases_lt old.events n) [
  | inl lt ↦ rw more.0 (omega (arith, lt))
  | inr le ↦ absurd (far le)
]
not_past_more (untils.Clock c) turn old new last None far h same = whichever c old new (option_map event_of last) h
not_past_more (untils.Clock c) turn old new last (Some e) far h more = elim (cases_lt c turn.clock) [
  | inl lt ↦ absurd (far lt)
  | inr le ↦ rw more.1 le
]

-- nothing has happened
pub stays_same : (until : Option Until) (v : SharedValue) → StaysBefore until v None v
stays_same None v = tt
stays_same (Some until) v = λ last h. h

pub stays_more : (until : Option Until) (turn : Key) (old new : SharedValue) (found : Option Recorded) → (IsFarBefore until old.events turn → ⊥) → Counts turn.clock old found new → StaysBefore until old found new
stays_more None turn old new found far counts = tt
stays_more (Some until) turn old new found far counts = λ last h. not_past_more until turn old new last found far h counts

-- it has come so far
pub reached : {S : Type 0} (until : Until) (turn : Key) (places : List (Option (Goroutine S))) (v : SharedValue) (last : Option Event) → IsFar until v.events turn → IsNotPast until v last → least (keys clock_of 0 places) ≡ Some turn → IsReached until places v
reached (untils.Event n) turn places v last far h is = omega (arith, far, h)
reached (untils.Clock c) turn places v last far h is = λ other same. let e : turn ≡ other = same_Some turn other (sym is ∙ same) in rw (← e) far
