-- Events that follow one another in a run.
use Rattle.std.specs.Prelude.{◌≡◌, ◌≤◌, ◌⊎◌, ℕ, ◌+◌, ◌-◌, ◌++◌, min, IfSome, IsTrue, List, Option, Some, length, take}
use Rattle.std.specs.Option.{is_some}
use Rattle.timeline.specs.declared.window.Window.{Window}
use Rattle.timeline.specs.declared.window.Window.TheVariants.{First, From, Last}
use Rattle.word.specs.declared.end.End.{End as Ending}
use Rattle.word.specs.declared.request.Event.{Event as Recorded}
use Rattle.word.specs.Kinds.{GoroutineKind}
use Rattle.word.specs.Values.{Event}
use Rattle.word.specs.Worlds.{end_of, moment}

-- these are the first events of the one-thread run
abbrev pub AreFirst : GoroutineKind → ℕ → List Event → Type 0
AreFirst K limit events = (n : ℕ) × (take (length events) (moment K limit n).shared.shared.events ≡ events)

-- these are all of its events, and it ends so
abbrev pub AreAll : GoroutineKind → ℕ → List Event → Ending → Type 0
AreAll K limit events ending = (n : ℕ) × ((moment K limit n).shared.shared.events ≡ events) × (end_of (moment K limit n) ≡ Some ending)

-- after `before` events of the one-thread run these are the next ones
abbrev pub AreNext : GoroutineKind → ℕ → ℕ → List Event → Type 0
AreNext K limit before events = (gone : List Event) × (length gone ≡ before) × AreFirst K limit (gone ++ events)

-- after `before` events of the one-thread run these are all that come, and it ends so
abbrev pub AreRest : GoroutineKind → ℕ → ℕ → List Event → Ending → Type 0
AreRest K limit before events ending = (gone : List Event) × (length gone ≡ before) × AreAll K limit (gone ++ events) ending

-- these are the events of the one-thread run that come after `before` others, and all that come if its end is there
pub record IsWindow (K : GoroutineKind) (limit before : ℕ) (events : List Event) (end : Option Ending) : Type 0 where
  pub next : AreNext K limit before events
  pub rest : IfSome end (AreRest K limit before events)

-- a window of at most `most` events begins after `before` events and has `count`: it shows the first events, or those from event
-- `number` on, of which there may be none, or the last of the run, whose end is there
abbrev pub Shows : Window → ℕ → ℕ → ℕ → Option Ending → Type 0
Shows First most before count end = before ≡ 0
Shows (From number) most before count end = (before ≡ number - 1) ⊎ ((before ≤ number - 1) × (count ≡ 0) × IsTrue (is_some end))
Shows (Last number) most before count end = IsTrue (is_some end) × ((before ≡ 0) ⊎ (count ≡ min number most))

-- `left` is `events` without some at the front; `before` events came before `events`, `later` events before `left`
abbrev pub Moves : ℕ → List Recorded → ℕ → List Recorded → Type 0
Moves before events later left = (gone : List Recorded) × (before + length gone ≡ later) × (gone ++ left ≡ events)
