-- A run that was stopped, by its events.
use Rattle.std.proofs.Common.{◌≡◌, ℕ, ◌≤◌, List, length, Option, Some, None, Result, Ok, Err, IfOk, refl, sym, subst, ◌∙◌, arith}
use Rattle.std.specs.Prelude.{IfSome}
use Rattle.logical_clock.specs.Order.{keys, least}
use Rattle.reference_world.specs.Deeds.{SharedValue}
use Rattle.word.specs.declared.end.End.{End as Ending}
use Rattle.word.specs.declared.end.End.TheVariants.{Finished, Panicked, Deadlock, Exhausted}
use Rattle.word.specs.Kinds.{GoroutineKind}
use Rattle.word.specs.Values.{Event}
use Rattle.word.specs.Worlds.{moment}
use Rattle.one_thread.specs.declared.goroutine.Goroutine.{Goroutine}
use Rattle.one_thread.specs.declared.snapshot.Until.{Until}
use Rattle.one_thread.specs.declared.snapshot.Until.TheVariants as untils
use Rattle.one_thread.specs.Places.{clock_of}
use Rattle.one_thread.specs.Snapshots.{IsMoment, IsMomentAt, IsNotPast, IsReached, IsSeen, newest}
use Rattle.one_thread.proofs.Moves.{next_is}
use Rattle.kendo_inspect.specs.Stops.{IsAfter, IsAt, IsNoEarlier, IsNoLater, IsWanted}
use Rattle.kendo_inspect.specs.declared.inspecting.Inspected.{Inspected}

module _ {S : Type 0} (K : GoroutineKind) (held : S → K.State) (limit : ℕ) (places : List (Option (Goroutine S))) (v : SharedValue) (last : Option Event) where
  last_by : (c : ℕ) (o : Option Event) → IsNotPast (untils.Clock c) v o → IfSome o (λ (event : Event). event.clock ≤ c)
  last_by c None h = tt
  last_by c (Some e) h = h

  no_later : (until : Until) (m : IsMoment K held limit places v last) → IsNotPast until v last → IsNoLater K limit until m.moves
  no_later (untils.Event n) m bound = subst (λ (k : ℕ). k ≤ n) m.world.shared.events bound
  no_later (untils.Clock c) m bound = subst (λ (o : Option Event). IfSome o (λ (event : Event). event.clock ≤ c)) (sym m.event) (last_by c last bound)

  no_earlier : (until : Until) (m : IsMoment K held limit places v last) → IsReached until places v → IsNoEarlier K limit until m.moves
  no_earlier (untils.Event n) m reached = let same : v.events ≡ length (moment K limit m.moves).shared.shared.events = m.world.shared.events in omega (arith, same, reached)
  no_earlier (untils.Clock c) m reached = λ turn is. reached turn (sym (next_is K held limit (moment K limit m.moves) places v (least (keys clock_of 0 places)) m.world refl) ∙ is)

  module _ (until : Until) (bound : IsNotPast until v last) where
    at : (end : Option Ending) → (end ≡ None → IsReached until places v) → IsMomentAt K held limit places v last end → IsAt K limit until v.events end
    at end reached m = record {
      moves = m.0.moves;
      count = sym m.0.world.shared.events;
      ends = m.1;
      bound = no_later until m.0 bound;
      reached = λ none. no_earlier until m.0 (reached none);
    }

    pub after : (end : Option Ending) → (end ≡ None → IsReached until places v) → IsSeen K held limit places v last end → IsAfter K limit until v.events end
    after (Some Exhausted) reached h = h
    after (Some Finished) reached h = at (Some Finished) reached h
    after (Some Deadlock) reached h = at (Some Deadlock) reached h
    after (Some (Panicked cause)) reached h = at (Some (Panicked cause)) reached h
    after None reached h = at None reached h

pub wanted : {S : Type 0} (until : Until) (places : List (Option (Goroutine S))) (v : SharedValue) (last : Option Event) (end : Option Ending) → (end ≡ None → IsReached until places v) → IsNotPast until v last → IsWanted until v.events end
wanted (untils.Event n) places v last end reached bound = (bound, reached)
wanted (untils.Clock c) places v last end reached bound = tt

-- what holds of the numbers holds of what has them
pub ok_so : {E : Type 0} (made : Result Inspected E) (P : ℕ → Option Ending → Type 0) (events : ℕ) (end : Option Ending) → IfOk made (λ seen. seen.events ≡ events) → IfOk made (λ seen. seen.end ≡ end) → P events end
    → IfOk made (λ seen. P seen.events seen.end)
ok_so (Ok seen) P events end same also holds = rw (same, also) holds
ok_so (Err error) P events end same also holds = tt
