-- What was written of a run that is made event after event.
use Rattle.std.proofs.Common.{◌≡◌, ℕ, ◌+◌, All, List, [], ◌∷◌, ◌++◌, length, Option, Some, None, IsSome, sym, ap, ◌∙◌, subst, refl, append-nil}
use Rattle.std.specs.Io.KnownBytes.{Appends}
use Rattle.std.specs.List.{flat_map}
use Rattle.std.proofs.lemmas.Bool.{false≢true}
use Rattle.std.proofs.lemmas.List.{length-append}
use Rattle.std.proofs.lemmas.List.Concat.{flat_map-append}
use Rattle.std.proofs.lemmas.List.Elements.{All-nil, All-push}
use Rattle.one_thread.specs.Histories.{Adds, HasHad, HasHadTo, OpenValue, printed_by}
use Rattle.one_thread.proofs.Moves.{appends_more, appends_none}
use Rattle.run_values.specs.Values.{AreLines, HasLines, IsLine}
use Rattle.word.specs.declared.end.End.{End as Ending}
use Rattle.word.specs.declared.request.Event.{Event as Recorded}
use Rattle.word.specs.Kinds.{GoroutineKind}
use Rattle.word.specs.Values.{Event}
use Rattle.word.specs.Views.{event_of}

-- no newline is among these bytes
pub AreClean : List ℕ → Type 0
AreClean bytes = All (λ b. b ≡ 10 → ⊥) bytes

pub clean_none : AreClean []
unfolding AreClean
clean_none = All-nil (λ b. b ≡ 10 → ⊥)

pub clean_more : (bytes : List ℕ) (b : ℕ) → AreClean bytes → (b ≡ 10 → ⊥) → AreClean (bytes ++ b ∷ [])
unfolding AreClean
clean_more bytes b are is = All-push (λ b. b ≡ 10 → ⊥) bytes b are is

pub clean_line : (bytes : List ℕ) → AreClean bytes → IsLine (bytes ++ 10 ∷ [])
unfolding AreClean
clean_line bytes are = (bytes, are, refl)

-- one line more
one_more : (bytes line : List ℕ) (count : ℕ) → AreLines bytes count → IsLine line → AreLines (bytes ++ line) (count + 1)
one_more bytes line count (lines, counts, are, joined) is = (
  lines ++ line ∷ [],
  length-append lines (line ∷ []) ∙ ap (λ (n : ℕ). n + 1) counts,
  All-push IsLine lines line are is,
  ap (λ (bs : List ℕ). bs ++ line) joined ∙ sym (flat_map-append (λ (l : List ℕ). l) lines (line ∷ []) ∙ ap (λ (l : List ℕ). flat_map (λ (l : List ℕ). l) lines ++ l) (append-nil line)),
)

module _ {S : Type 0} (K : GoroutineKind) (held : S → K.State) where
  -- of a run that had these events, a line for each was written after what was known
  pub record HasLined (run : OpenValue S) (known now : Option (List ℕ)) : Type 0 where
    pub events : List Event
    pub output : List ℕ
    pub bytes : List ℕ
    pub after : HasHad K held run events output
    pub written : Appends known now bytes
    pub lines : AreLines bytes (length events)

  pub opened_lined : (run : OpenValue S) (known : Option (List ℕ)) → HasHad K held run [] [] → HasLined run known known
  opened_lined run known after = record { events = []; output = []; bytes = []; after = after; written = appends_none known; lines = ([], refl, All-nil IsLine, refl) }

  -- no event more
  pub lined_still : (old new : OpenValue S) (known now : Option (List ℕ)) → Adds K held old None new → HasLined old known now → HasLined new known now
  lined_still old new known now adds h = record { events = h.events; output = h.output; bytes = h.bytes; after = adds h.events h.output h.after; written = h.written; lines = h.lines }

  -- one event more
  pub lined_more : (old new : OpenValue S) (event : Recorded) → Adds K held old (Some event) new → (known now now' : Option (List ℕ)) → HasLined old known now → (line : List ℕ) → IsLine line
      → Appends now now' line → HasLined new known now'
  lined_more old new event adds known now now' h line is more = record {
    events = h.events ++ event_of event ∷ [];
    output = h.output ++ printed_by (event_of event).request;
    bytes = h.bytes ++ line;
    after = adds h.events h.output h.after;
    written = appends_more known now now' h.bytes line h.written more;
    lines = subst (AreLines (h.bytes ++ line)) (sym (length-append h.events (event_of event ∷ []))) (one_more h.bytes line (length h.events) h.lines is);
  }

  -- of a run that has ended it is a line for each of its events
  pub lined_whole : (limit : ℕ) (run : OpenValue S) → run.limit ≡ limit → (known now : Option (List ℕ)) → HasLined run known now → IsSome run.end → HasLines K limit known now
  lined_whole limit run same known now h over = go run.end over h.after
    where
      go : (o : Option Ending) → IsSome o → HasHadTo K held o run h.events h.output → HasLines K limit known now
      go (Some end) is e =
          subst (λ (k : ℕ). HasLines K k known now) same
          (e.moves, h.bytes, h.written, subst (λ (es : List Event). AreLines h.bytes (length es)) (sym e.events) h.lines, subst IsSome (sym e.end) is)
      go None is e = absurd (false≢true is)
