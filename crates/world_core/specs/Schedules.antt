-- Lists of steps, and what they commit.
use Rattle.std.specs.Prelude.{◌≡◌, ℕ, ◌+◌, Bool, false, cond, List, [], ◌∷◌, ◌++◌, length, map, Option, Some, None, slice_index_or}
use Rattle.std.specs.Option.{is_some}
use Rattle.bytecode.specs.Code.{Code}
use Rattle.bytecode.specs.Machine.{code_kind}
use Rattle.logical_clock.specs.declared.key.Key.{Key}
use Rattle.logical_clock.specs.Order.{keys, least}
use Rattle.turn_rule.specs.declared.Row.{Row}
use Rattle.turn_rule.specs.declared.Step.{Step}
use Rattle.turn_rule.specs.declared.Step.TheVariants.{Lend, Local, Publish, Look, Return, Settle}
use Rattle.turn_rule.specs.Schedule.{has_turn, happens, opened, parked_clock, perform_row, schedule}
use Rattle.word.specs.declared.end.End.{End as Ending}
use Rattle.word.specs.declared.end.End.TheVariants.{Deadlock}
use Rattle.word.specs.Closing.{ShutAfter}
use Rattle.word.specs.Flow.{accepted, received}
use Rattle.word.specs.Requests.{channel_of}
use Rattle.word.specs.Rising.{Rises, entries}
use Rattle.word.specs.Values.{Event}
use Rattle.word.specs.Worlds.{end_of, is_deserted, moment, opening, rules}
use Rattle.word.specs.Zeros.{ZeroAfter}
use Rattle.world_core_base.specs.Cores.{CodeMachine, CoreValue, IsCoreOf, shared_of}
use Rattle.world_core_base.specs.Slots.{State}

pub record WorldValue : Type 0 where
  pub core : CoreValue
  pub events : List Event
  pub output : List ℕ

-- the world is this one
pub record IsWorldOf (m : CodeMachine) (w : WorldValue) : Type 0 where
  pub core : IsCoreOf m w.core
  pub events : w.events ≡ (shared_of m).events
  pub output : w.output ≡ (shared_of m).output

-- the end, if there is one: that of the last event, or Deadlock if nobody is awake
abbrev pub end_in : CoreValue → Option Ending
end_in core = cond (is_some core.ending) core.ending (cond (is_deserted (map is_some core.rows)) (Some Deadlock) None)

-- ---- one step

-- the goroutine of a step
abbrev pub goroutine_of : Step → Option ℕ
goroutine_of (Lend n) = Some n
goroutine_of (Local n) = Some n
goroutine_of (Publish n) = Some n
goroutine_of (Look n) = Some n
goroutine_of (Return n) = Some n
goroutine_of Settle = None

-- whether a step is a Settle that has a turn, once that least key is parked
abbrev pub has_turn_with : List (Option (Row State)) → Option Key → Bool
has_turn_with rows None = false
has_turn_with rows (Some key) = has_turn key 0 rows

abbrev pub is_turn : CodeMachine → Code → ℕ → Step → Bool
is_turn m code limit Settle = has_turn_with m.rows (least (keys (parked_clock (rules (code_kind code) limit)) 0 m.rows))
is_turn m code limit step = false

-- the events that a step commits: one if it is a Settle that has a turn, before the end
abbrev pub turns_at : Code → ℕ → CodeMachine → Step → ℕ
turns_at code limit m step = cond (is_some (shared_of m).ending) 0 (cond (is_turn m code limit step) 1 0)

-- goroutine n's request is performed, which is one event
abbrev pub Commits : Code → ℕ → WorldValue → ℕ → WorldValue → Type 0
Commits code limit old n new =
    (m : CodeMachine) → IsWorldOf m old → IsWorldOf (perform_row (rules (code_kind code) limit) m n (slice_index_or m.rows n None)) new × (length new.events ≡ length old.events + 1)

-- ---- a list of steps

abbrev pub turns_in : Code → ℕ → List Step → CodeMachine → ℕ
turns_in code limit [] m = 0
turns_in code limit (step ∷ steps) m = turns_at code limit m step + turns_in code limit steps (happens (rules (code_kind code) limit) m step)

-- the world in which a schedule begins: goroutine 1 alone
abbrev pub first_world : Code → ℕ → CodeMachine
first_world code limit = opened (rules (code_kind code) limit) (opening (code_kind code))

abbrev pub scheduled : Code → ℕ → List Step → CodeMachine
scheduled code limit steps = schedule (rules (code_kind code) limit) steps (first_world code limit)

-- ---- what is committed

-- the events and the output are those of the one-thread run after some number of moves, and so is the end, if there is one
pub record IsMoment (code : Code) (limit : ℕ) (w : WorldValue) : Type 0 where
  pub moves : ℕ
  pub events : w.events ≡ (moment (code_kind code) limit moves).shared.shared.events
  pub output : w.output ≡ (moment (code_kind code) limit moves).shared.shared.output
  pub ending : end_in w.core ≡ end_of (moment (code_kind code) limit moves)

-- first in, first out: what a channel accepted is what was received and then its buffer; one sender's items come in the
-- order in which they were offered; nothing is accepted after a close; and zero with false is given only in or after a
-- close, when all that was accepted was received
pub record IsFirstInFirstOut (w : WorldValue) : Type 0 where
  pub order : (c : ℕ) → accepted c w.events ≡ received c w.events ++ (channel_of w.core.channels.channels c).items
  pub rising : (c : ℕ) → Rises (entries c w.events)
  pub shut : (c : ℕ) → ShutAfter c [] w.events
  pub zero : (c : ℕ) → ZeroAfter c [] w.events
