-- What was written of a run that is made event after event.
use Rattle.std.proofs.Common.{◌≡◌, ℕ, ◌+◌, List, [], ◌∷◌, ◌++◌, length, take, Option, Some, None, sym, ap, ◌∙◌, subst, append-nil}
use Rattle.std.specs.Io.KnownBytes.{Appends}
use Rattle.std.proofs.lemmas.List.Concat.{flat_map-append}
use Rattle.std.proofs.Math.Seq.{take-length}
use Rattle.one_thread.specs.Histories.{Adds, HasHad, HasHadTo, OpenValue, printed_by}
use Rattle.one_thread.proofs.Moves.{appends_more, appends_none, take_past}
use Rattle.tracer.specs.Trace.{BeginsTrace, IsWholeTrace, trace, traceline}
use Rattle.whole_run.specs.Runs.{BeginsOutput, IsWhole}
use Rattle.word.specs.declared.end.End.{End as Ending}
use Rattle.word.specs.declared.request.Event.{Event as Recorded}
use Rattle.word.specs.Kinds.{GoroutineKind}
use Rattle.word.specs.Values.{Event}
use Rattle.word.specs.Views.{event_of}
use Rattle.word.specs.Worlds.{moment}

trace_more : (events : List Event) (e : Event) → trace (events ++ e ∷ []) ≡ trace events ++ traceline e
trace_more events e = flat_map-append traceline events (e ∷ []) ∙ ap (λ (line : List ℕ). trace events ++ line) (append-nil (traceline e))

module _ {S : Type 0} (K : GoroutineKind) (held : S → K.State) where
  -- of a run that had these events, its output and its trace were written after what was known
  pub record HasWritten (run : OpenValue S) (known now : Option (List ℕ)) (heard told : Option (List ℕ)) : Type 0 where
    pub events : List Event
    pub output : List ℕ
    pub after : HasHad K held run events output
    pub printed : Appends known now output
    pub traced : Appends heard told (trace events)

  pub opened_written : (run : OpenValue S) (known heard : Option (List ℕ)) → HasHad K held run [] [] → HasWritten run known known heard heard
  opened_written run known heard after = record { events = []; output = []; after = after; printed = appends_none known; traced = appends_none heard }

  -- the run's world that has had these events
  record Met (limit : ℕ) (seen : List Event) (shown : List ℕ) : Type 0 where
    moves : ℕ
    events : (moment K limit moves).shared.shared.events ≡ seen
    output : (moment K limit moves).shared.shared.output ≡ shown

  met : (run : OpenValue S) (events : List Event) (output : List ℕ) → HasHad K held run events output → Met run.limit events output
  met run events output after = go run.end after
    where
      go : (o : Option Ending) → HasHadTo K held o run events output → Met run.limit events output
      go None h = record { moves = h.moves; events = h.events; output = h.output }
      go (Some x) h = record { moves = h.moves; events = h.events; output = h.output }

  module _ (limit : ℕ) (run : OpenValue S) (same : run.limit ≡ limit) where
    met_at : (events : List Event) (output : List ℕ) → HasHad K held run events output → Met limit events output
    met_at events output after = subst (λ (k : ℕ). Met k events output) same (met run events output after)

    some_output : (old new : Option (List ℕ)) (events : List Event) (output : List ℕ) (k : ℕ) → HasHad K held run events output → Appends old new (take k output) → BeginsOutput K limit old new
    some_output old new events output k after a = let m = met_at events output after in (m.moves, k, subst (λ (xs : List ℕ). Appends old new (take k xs)) (sym m.output) a)

    some_trace : (old new : Option (List ℕ)) (events : List Event) (output : List ℕ) (k : ℕ) → HasHad K held run events output → Appends old new (take k (trace events)) → BeginsTrace K limit old new
    some_trace old new events output k after a = let m = met_at events output after in (m.moves, k, subst (λ (es : List Event). Appends old new (take k (trace es))) (sym m.events) a)

    -- so what was written begins the run's output and trace
    pub begins_output : (known now heard told : Option (List ℕ)) → HasWritten run known now heard told → BeginsOutput K limit known now
    begins_output known now heard told h = some_output known now h.events h.output (length h.output) h.after (subst (Appends known now) (sym (take-length h.output)) h.printed)

    pub begins_trace : (known now heard told : Option (List ℕ)) → HasWritten run known now heard told → BeginsTrace K limit heard told
    begins_trace known now heard told h = some_trace heard told h.events h.output (length (trace h.events)) h.after (subst (Appends heard told) (sym (take-length (trace h.events))) h.traced)

    -- of a run that has ended it is all of them
    pub whole_output : (known now heard told : Option (List ℕ)) → HasWritten run known now heard told → (end : Ending) → run.end ≡ Some end → IsWhole K limit known now end
    whole_output known now heard told h end over = go (subst (λ (o : Option Ending). HasHadTo K held o run h.events h.output) over h.after)
      where
        go : HasHadTo K held (Some end) run h.events h.output → IsWhole K limit known now end
        go e = subst (λ (k : ℕ). IsWhole K k known now end) same (e.moves, subst (Appends known now) (sym e.output) h.printed, e.end)

    pub whole_trace : (known now heard told : Option (List ℕ)) → HasWritten run known now heard told → (end : Ending) → run.end ≡ Some end → IsWholeTrace K limit heard told end
    whole_trace known now heard told h end over = go (subst (λ (o : Option Ending). HasHadTo K held o run h.events h.output) over h.after)
      where
        go : HasHadTo K held (Some end) run h.events h.output → IsWholeTrace K limit heard told end
        go e = subst (λ (k : ℕ). IsWholeTrace K k heard told end) same (e.moves, subst (λ (es : List Event). Appends heard told (trace es)) (sym e.events) h.traced, e.end)

  -- no event more
  pub written_still : (old new : OpenValue S) (known now heard told : Option (List ℕ)) → Adds K held old None new → HasWritten old known now heard told → HasWritten new known now heard told
  written_still old new known now heard told adds h = record { events = h.events; output = h.output; after = adds h.events h.output h.after; printed = h.printed; traced = h.traced }

  -- one event more
  module _ (old new : OpenValue S) (event : Recorded) (adds : Adds K held old (Some event) new) (known now heard told : Option (List ℕ)) (h : HasWritten old known now heard told) (now' told' : Option (List ℕ)) where
    pub written_more : Appends now now' (printed_by (event_of event).request) → Appends told told' (traceline (event_of event)) → HasWritten new known now' heard told'
    written_more prints line = record {
      events = h.events ++ event_of event ∷ [];
      output = h.output ++ printed_by (event_of event).request;
      after = adds h.events h.output h.after;
      printed = appends_more known now now' h.output _ h.printed prints;
      traced = subst (Appends heard told') (sym (trace_more h.events (event_of event))) (appends_more heard told told' (trace h.events) _ h.traced line);
    }

    module _ (limit : ℕ) (same : new.limit ≡ limit) (k : ℕ) where
      -- some of what it prints, and some of its line
      pub some_printed : Appends now now' (take k (printed_by (event_of event).request)) → BeginsOutput K limit known now'
      some_printed part =
          some_output limit new same known now' _ _ (length h.output + k) (adds h.events h.output h.after)
          (subst (Appends known now') (sym (take_past h.output (printed_by (event_of event).request) k)) (appends_more known now now' h.output _ h.printed part))

      pub some_traced : Appends told told' (take k (traceline (event_of event))) → BeginsTrace K limit heard told'
      some_traced part =
          some_trace limit new same heard told' _ _ (length (trace h.events) + k) (adds h.events h.output h.after)
          (subst (Appends heard told') (sym (ap (take (length (trace h.events) + k)) (trace_more h.events (event_of event)) ∙ take_past (trace h.events) (traceline (event_of event)) k)) (appends_more heard told told' (trace h.events) _ h.traced part))
