-- A run that was stopped at a moment, by its events.
use Rattle.std.specs.Prelude.{◌≡◌, ℕ, ◌<◌, ◌≤◌, IfSome, length, Option, Some, None}
use Rattle.logical_clock.specs.declared.key.Key.{Key}
use Rattle.turn_rule.specs.Turns.{next}
use Rattle.word.specs.declared.end.End.{End as Ending}
use Rattle.word.specs.declared.end.End.TheVariants.{Finished, Panicked, Deadlock, Exhausted}
use Rattle.word.specs.Kinds.{GoroutineKind}
use Rattle.word.specs.Values.{Event}
use Rattle.word.specs.Worlds.{end_of, moment, rules}
use Rattle.one_thread.specs.Snapshots.{newest}
use Rattle.one_thread.specs.declared.snapshot.Until.{Until}
use Rattle.one_thread.specs.declared.snapshot.Until.TheVariants as untils

-- after n moves the run has no event after the requested moment: no more events than this number, or none at a later clock
abbrev pub IsNoLater : GoroutineKind → (limit : ℕ) → Until → (n : ℕ) → Type 0
IsNoLater K limit (untils.Event number) n = length (moment K limit n).shared.shared.events ≤ number
IsNoLater K limit (untils.Clock clock) n = IfSome (newest (moment K limit n).shared.shared.events) (λ (event : Event). event.clock ≤ clock)

-- after n moves the run has all events up to the requested moment: as many as this number, or the next turn is at a later clock
abbrev pub IsNoEarlier : GoroutineKind → (limit : ℕ) → Until → (n : ℕ) → Type 0
IsNoEarlier K limit (untils.Event number) n = number ≤ length (moment K limit n).shared.shared.events
IsNoEarlier K limit (untils.Clock clock) n = (turn : Key) → next (rules K limit) (moment K limit n).awake ≡ Some turn → clock < turn.clock

-- after this many events the run has ended so, before the requested moment or at it, or goes on, and is at it
pub record IsAt (K : GoroutineKind) (limit : ℕ) (until : Until) (events : ℕ) (end : Option Ending) : Type 0 where
  pub moves : ℕ
  pub count : length (moment K limit moves).shared.shared.events ≡ events
  pub ends : end_of (moment K limit moves) ≡ end
  pub bound : IsNoLater K limit until moves
  pub reached : end ≡ None → IsNoEarlier K limit until moves

-- like `IsAt`, but of a run whose time is exhausted only its end is known
abbrev pub IsAfter : GoroutineKind → ℕ → Until → ℕ → Option Ending → Type 0
IsAfter K limit until events (Some Exhausted) = (n : ℕ) × (end_of (moment K limit n) ≡ Some Exhausted)
IsAfter K limit until events (Some Finished) = IsAt K limit until events (Some Finished)
IsAfter K limit until events (Some Deadlock) = IsAt K limit until events (Some Deadlock)
IsAfter K limit until events (Some (Panicked cause)) = IsAt K limit until events (Some (Panicked cause))
IsAfter K limit until events None = IsAt K limit until events None

-- there were no more events than the requested number, and, if the run goes on, as many; a clock requests no number
abbrev pub IsWanted : Until → ℕ → Option Ending → Type 0
IsWanted (untils.Event n) events end = (events ≤ n) × (end ≡ None → events ≡ n)
IsWanted (untils.Clock c) events end = Unit {0}
