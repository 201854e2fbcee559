-- The recording of code is that of the source which it is compiled from.
use Rattle.std.proofs.Common.{◌≡◌, ℕ, List, [], ◌∷◌, ◌++◌, Option, Some, None, IfSome, Result, Ok, Err, IfOk, length, map, take, refl, sym, ◌∙◌, subst}
use Rattle.bytecode.specs.Code.{Code}
use Rattle.bytecode.specs.Machine.{code_kind}
use Rattle.meaning.specs.Source.{source_kind}
use Rattle.kendo_reading.specs.Reading.{Reads}
use Rattle.event_window.specs.Windows.{AreAll, AreFirst, AreNext, AreRest, IsWindow, Shows}
use Rattle.syntax.specs.Tree.{File}
use Rattle.word.specs.declared.end.End.{End as Ending}
use Rattle.word.specs.Kinds.{GoroutineKind}
use Rattle.word.specs.Values.{Event, Shared}
use Rattle.word.specs.Views.{event_of}
use Rattle.word.specs.Worlds.{Equal}
use Rattle.timeline.specs.declared.recording.Recording.{Recording}
use Rattle.timeline.specs.declared.window.Window.TheVariants.{First}
use Rattle.kendo_code.specs.Recorded.{IsRecorded}

first_also : (K M : GoroutineKind) (limit : ℕ) (events : List Event) → Equal K M → AreFirst M limit events → AreFirst K limit events
first_also K M limit events e a =
    let s = e.back limit a.0 in
    (s.0, subst (λ (w : Shared). take (length events) w.events ≡ events) s.1.shared a.1)

all_also : (K M : GoroutineKind) (limit : ℕ) (events : List Event) (ending : Ending) → Equal K M → AreAll M limit events ending → AreAll K limit events ending
all_also K M limit events ending e a =
    let s = e.back limit a.0 in
    (s.0, subst (λ (w : Shared). w.events ≡ events) s.1.shared a.1, sym s.1.ends ∙ a.2)

next_also : (K M : GoroutineKind) (limit before : ℕ) (events : List Event) → Equal K M → AreNext M limit before events → AreNext K limit before events
next_also K M limit before events e a = (a.0, a.1, first_also K M limit (a.0 ++ events) e a.2)

rest_if : (K M : GoroutineKind) (limit before : ℕ) (events : List Event) (end : Option Ending) → Equal K M → IfSome end (AreRest M limit before events) → IfSome end (AreRest K limit before events)
rest_if K M limit before events None e a = tt
rest_if K M limit before events (Some ending) e a = (a.0, a.1, all_also K M limit (a.0 ++ events) ending e a.2)

pub recorded_code : (K : GoroutineKind) (code code' : Code) (limit before : ℕ) (events : List Event) (end : Option Ending) → code' ≡ code → Equal K (code_kind code)
    → AreNext (code_kind code') limit before events → IfSome end (AreRest (code_kind code') limit before events) → IsWindow K limit before events end
recorded_code K code code' limit before events end is e next rest = record {
  next = next_also K (code_kind code) limit before events e (subst (λ (x : Code). AreNext (code_kind x) limit before events) is next);
  rest = rest_if K (code_kind code) limit before events end e (subst (λ (x : Code). IfSome end (AreRest (code_kind x) limit before events)) is rest);
}

pub recorded_source : {E : Type 0} (K : GoroutineKind) (code code' : Code) (limit : ℕ) (result : Result Recording E) → code' ≡ code → Equal K (code_kind code)
    → IfOk result (λ (made : Recording). AreNext (code_kind code') limit made.before (map event_of made.events.items))
    → IfOk result (λ (made : Recording). IfSome made.end (AreRest (code_kind code') limit made.before (map event_of made.events.items)))
    → IfOk result (λ (made : Recording). IsWindow K limit made.before (map event_of made.events.items) made.end)
recorded_source K code code' limit (Ok made) is e next rest = recorded_code K code code' limit made.before (map event_of made.events.items) made.end is e next rest
recorded_source K code code' limit (Err fault) is e next rest = tt

-- a window that begins with the first event

none_gone : {A : Type 0} (gone : List A) → length gone ≡ 0 → gone ≡ []
none_gone [] e = refl
none_gone (x ∷ xs) e = absurd cc

first_next : (K : GoroutineKind) (limit before : ℕ) (events : List Event) → before ≡ 0 → AreNext K limit before events → AreFirst K limit events
first_next K limit before events zero next = subst (λ gone. AreFirst K limit (gone ++ events)) (none_gone next.0 (next.1 ∙ zero)) next.2

first_rest : (K : GoroutineKind) (limit before : ℕ) (events : List Event) (end : Option Ending) → before ≡ 0 → IfSome end (AreRest K limit before events) → IfSome end (AreAll K limit events)
first_rest K limit before events None zero rest = tt
first_rest K limit before events (Some ending) zero rest = subst (λ gone. AreAll K limit (gone ++ events) ending) (none_gone rest.0 (rest.1 ∙ zero)) rest.2

from_first : (K : GoroutineKind) (limit before : ℕ) (events : List Event) (end : Option Ending) → before ≡ 0 → IsWindow K limit before events end → IsRecorded K limit events end
from_first K limit before events end zero window = record { first = first_next K limit before events zero window.next; all = first_rest K limit before events end zero window.rest }

pub from_the_first : {E : Type 0} (bytes : List ℕ) (limit most : ℕ) (result : Result Recording E)
    → IfOk result (λ (made : Recording). (file : File) × Reads bytes file × IsWindow (source_kind file) limit made.before (map event_of made.events.items) made.end)
    → IfOk result (λ (made : Recording). Shows First most made.before (length made.events.items) made.end)
    → IfOk result (λ (made : Recording). (file : File) × Reads bytes file × IsRecorded (source_kind file) limit (map event_of made.events.items) made.end)
from_the_first bytes limit most (Ok made) window shows = (window.0, window.1, from_first (source_kind window.0) limit made.before (map event_of made.events.items) made.end shows window.2)
from_the_first bytes limit most (Err fault) window shows = tt
