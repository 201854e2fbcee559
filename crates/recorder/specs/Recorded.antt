-- The events of a book's run that were kept.
use Rattle.std.specs.Prelude.{◌≡◌, ◌≤◌, ℕ, ◌+◌, List, Some, length, map}
use Rattle.book.specs.Desks.{Desk, IsEvent}
use Rattle.book.specs.declared.settled.Settled.{Settled}
use Rattle.book.specs.declared.settled.Settled.TheVariants.{Committed, Waiting, Ended}
use Rattle.bytecode.specs.Code.{Code}
use Rattle.bytecode.specs.Machine.{code_kind}
use Rattle.event_window.specs.Windows.{AreNext}
use Rattle.word.specs.declared.end.End.{End as Ending}
use Rattle.word.specs.declared.request.Event.{Event as Recorded}
use Rattle.word.specs.Views.{event_of}
use Rattle.word.specs.Worlds.{end_of, moment}

-- the run ends with `ending`, after `before` events
abbrev pub EndsAfter : Code → ℕ → ℕ → Ending → Type 0
EndsAfter code limit before ending =
    (n : ℕ) × (length (moment (code_kind code) limit n).shared.shared.events ≡ before) × (end_of (moment (code_kind code) limit n) ≡ Some ending)

-- the book is of the same run, `more` events later
pub record IsLater (old new : Desk) (more : ℕ) : Type 0 where
  pub code : new.code ≡ old.code
  pub limit : new.limit ≡ old.limit
  pub events : new.core.events ≡ old.core.events + more

-- the run's next event, or its end, or some steps on the way there
abbrev pub Comes : Desk → Settled → Desk → Type 0
Comes old (Committed event) new = IsLater old new 1 × IsEvent old.code old.limit old.core.events (event_of event)
Comes old (Waiting n) new = IsLater old new 0
Comes old (Ended ending) new = IsLater old new 0 × EndsAfter old.code old.limit old.core.events ending

-- the book is of this run, and these are the last of the events that it has committed, after `before` others
pub record HasRecorded (program : Code) (most : ℕ) (d : Desk) (before : ℕ) (events : List Recorded) : Type 0 where
  pub code : d.code ≡ program
  pub limit : d.limit ≡ most
  pub counted : d.core.events ≡ before + length (map event_of events)
  pub next : AreNext (code_kind program) most before (map event_of events)
