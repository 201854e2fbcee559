-- The events that were kept of a run that is made event after event.
use Rattle.std.proofs.Common.{◌≡◌, ℕ, ◌+◌, List, [], ◌∷◌, ◌++◌, length, map, take, Option, Some, None, refl, sym, ap, ◌∙◌, subst, append_assoc, length-append}
use Rattle.std.proofs.lemmas.List.{length-map, map-append}
use Rattle.std.proofs.Math.Seq.{take-length}
use Rattle.std.specs.Prelude.{IfSome}
use Rattle.event_window.specs.Windows.{AreNext, AreRest, IsWindow, Moves}
use Rattle.one_thread.specs.Histories.{Adds, HasHad, HasHadTo, OpenValue, printed_by}
use Rattle.word.specs.declared.end.End.{End as Ending}
use Rattle.word.specs.declared.request.Event.{Event as Recorded}
use Rattle.word.specs.Kinds.{GoroutineKind}
use Rattle.word.specs.Values.{Event}
use Rattle.word.specs.Views.{event_of}
use Rattle.word.specs.Worlds.{end_of, moment}

module _ {S : Type 0} (K : GoroutineKind) (held : S → K.State) where
  -- the run has had these events, after `before` others
  pub record HasKept (run : OpenValue S) (before : ℕ) (kept : List Recorded) : Type 0 where
    pub gone : List Event
    pub output : List ℕ
    pub count : length gone ≡ before
    pub had : HasHad K held run (gone ++ map event_of kept) output

  pub opened_kept : (run : OpenValue S) → HasHad K held run [] [] → HasKept run 0 []
  opened_kept run had = record { gone = []; output = []; count = refl; had = had }

  pub still_kept : (old new : OpenValue S) (before : ℕ) (kept : List Recorded) → Adds K held old None new → HasKept old before kept → HasKept new before kept
  still_kept old new before kept adds h = record { gone = h.gone; output = h.output; count = h.count; had = adds (h.gone ++ map event_of kept) h.output h.had }

  -- one event more, with which others may have been removed
  pub taken_kept : (old new : OpenValue S) (before later : ℕ) (kept left : List Recorded) (event : Recorded) → Adds K held old (Some event) new → HasKept old before kept → Moves before (kept ++ event ∷ []) later left → HasKept new later left
  taken_kept old new before later kept left event adds h moves =
      let more : (h.gone ++ map event_of kept) ++ event_of event ∷ [] ≡ (h.gone ++ map event_of moves.0) ++ map event_of left =
      append_assoc h.gone (map event_of kept) (event_of event ∷ [])
      ∙ ap (λ (es : List Event). h.gone ++ es) (sym (map-append event_of kept (event ∷ [])) ∙ ap (map event_of) (sym moves.2) ∙ map-append event_of moves.0 left)
      ∙ sym (append_assoc h.gone (map event_of moves.0) (map event_of left)) in
      record {
        gone = h.gone ++ map event_of moves.0;
        output = h.output ++ printed_by (event_of event).request;
        count = length-append h.gone (map event_of moves.0) ∙ ap (λ (n : ℕ). length h.gone + n) (length-map moves.0 event_of) ∙ ap (λ (n : ℕ). n + length moves.0) h.count ∙ moves.1;
        had = subst (λ (es : List Event). HasHad K held new es (h.output ++ printed_by (event_of event).request)) more (adds (h.gone ++ map event_of kept) h.output h.had);
      }

  module _ (limit : ℕ) (run : OpenValue S) (same : run.limit ≡ limit) (before : ℕ) (kept : List Recorded) (h : HasKept run before kept) where
    -- so these are the next events of the run
    pub kept_next : AreNext K limit before (map event_of kept)
    kept_next = (h.gone, h.count, first run.end h.had)
      where
        all : List Event
        all = h.gone ++ map event_of kept

        front : (n : ℕ) → (moment K run.limit n).shared.shared.events ≡ all → take (length all) (moment K limit n).shared.shared.events ≡ all
        front n is = subst (λ (k : ℕ). take (length all) (moment K k n).shared.shared.events ≡ all) same (ap (take (length all)) is ∙ take-length all)

        first : (o : Option Ending) → HasHadTo K held o run all h.output → (n : ℕ) × (take (length all) (moment K limit n).shared.shared.events ≡ all)
        first None had = (had.moves, front had.moves had.events)
        first (Some end) had = (had.moves, front had.moves had.events)

    -- and all that come, if it has ended
    pub kept_rest : (end : Ending) → run.end ≡ Some end → AreRest K limit before (map event_of kept) end
    kept_rest end over = (h.gone, h.count, last (subst (λ (o : Option Ending). HasHadTo K held o run (h.gone ++ map event_of kept) h.output) over h.had))
      where
        last : HasHadTo K held (Some end) run (h.gone ++ map event_of kept) h.output → (n : ℕ) × ((moment K limit n).shared.shared.events ≡ h.gone ++ map event_of kept) × (end_of (moment K limit n) ≡ Some end)
        last had = subst (λ (k : ℕ). (n : ℕ) × ((moment K k n).shared.shared.events ≡ h.gone ++ map event_of kept) × (end_of (moment K k n) ≡ Some end)) same (had.moves, had.events, had.end)

pub windowed : (K : GoroutineKind) (limit before : ℕ) (events : List Event) (end : Option Ending) → AreNext K limit before events → IfSome end (AreRest K limit before events) → IsWindow K limit before events end
windowed K limit before events end next rest = record { next = next; rest = rest }
