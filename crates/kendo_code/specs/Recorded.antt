-- The events of a run that a picture shows.
use Rattle.std.specs.Prelude.{ℕ, IfSome, List, Option}
use Rattle.event_window.specs.Windows.{AreAll, AreFirst}
use Rattle.word.specs.declared.end.End.{End as Ending}
use Rattle.word.specs.Kinds.{GoroutineKind}
use Rattle.word.specs.Values.{Event}

-- these are the first events of the one-thread run, and all of them if its end is known
pub record IsRecorded (K : GoroutineKind) (limit : ℕ) (events : List Event) (end : Option Ending) : Type 0 where
  pub first : AreFirst K limit events
  pub all : IfSome end (AreAll K limit events)
