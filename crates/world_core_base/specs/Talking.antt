-- Goroutines that send and receive single words, without events to show.
use Rattle.std.specs.Prelude.{◌≡◌, ℕ, zero, suc, ◌+◌, ◌≤◌, ◌^◌, ◌⊎◌, Bool, false, true, Option, Some, None, slice_index_or}
use Rattle.bytecode.specs.Code.{Code}
use Rattle.bytecode.specs.Machine.{code_kind}
use Rattle.channel_core.specs.Channels.{ChannelsValue}
use Rattle.channel_core.specs.Words.{is_left_receive, is_left_send, met_at}
use Rattle.goroutine_vm_request.specs.declared.talks.Talk.{Talk}
use Rattle.goroutine_vm_request.specs.declared.talks.Talk.TheVariants as talks
use Rattle.turn_rule.specs.Schedule.{perform_row}
use Rattle.word.specs.Worlds.{rules}
use Rattle.awake_rows.specs.Slots.{waiting_clock}
pub use Rattle.awake_rows.specs.Slots.{talk_of_row}
use Rattle.world_core_base.specs.declared.talked.Talked.{Talked}
use Rattle.world_core_base.specs.declared.talked.Talked.TheVariants as talked
use Rattle.world_core_base.specs.Cores.{CodeMachine, CoreValue, FitsCore, HasTurn, IsCoreOf, Works, shared_of, to_lend}

-- goroutine n's request is performed, and prints nothing
pub record IsPassed (code : Code) (limit : ℕ) (m : CodeMachine) (n : ℕ) (new : CoreValue) : Type 0 where
  pub core : IsCoreOf (perform_row (rules (code_kind code) limit) m n (slice_index_or m.rows n None)) new
  pub output : (shared_of (perform_row (rules (code_kind code) limit) m n (slice_index_or m.rows n None))).output ≡ (shared_of m).output

-- so it is in each world with this core; it is one event, and the run goes on
pub record Passes (code : Code) (limit : ℕ) (old : CoreValue) (n : ℕ) (new : CoreValue) : Type 0 where
  pub passed : (m : CodeMachine) → IsCoreOf m old → IsPassed code limit m n new
  pub event : new.events ≡ old.events + 1
  pub going : new.ending ≡ None

-- the goroutine that has the turn performs a request that prints nothing
pub record TakesTurn (code : Code) (limit : ℕ) (old new : CoreValue) : Type 0 where
  pub number : ℕ
  pub turn : HasTurn old number
  pub passes : Passes code limit old number new
  pub fits : FitsCore code limit new

-- one move: the goroutine to lend next makes local steps up to its request, or the one that has the turn performs its request
abbrev pub IsMove : Code → ℕ → ℕ → CoreValue → CoreValue → Type 0
IsMove code limit quantum old new = Works code limit quantum old (Some true) new ⊎ TakesTurn code limit old new

-- k moves, one after the other
abbrev pub Moves : Code → ℕ → ℕ → ℕ → CoreValue → CoreValue → Type 0
Moves code limit quantum zero old new = new ≡ old
Moves code limit quantum (suc k) old new = (mid : CoreValue) × Moves code limit quantum k old mid × IsMove code limit quantum mid new

-- a request that is neither a send of one word nor a receive, or one that `channel_core` leaves to others
abbrev pub is_left : ChannelsValue → Talk → Bool
is_left channels (talks.Send k word) = is_left_send channels k
is_left channels (talks.Receive k) = is_left_receive channels k (met_at channels k true)
is_left channels talks.Other = true
is_left channels talks.Running = true

-- the next event is the last that a run may have, or goroutine n's request is left
abbrev pub IsLeft : Code → ℕ → CoreValue → ℕ → Type 0
IsLeft code limit core n = (core.events + 1 ≡ 2 ^ 62) ⊎ (is_left core.channels (talk_of_row code limit (slice_index_or core.rows n None)) ≡ true)

-- the request of goroutine n, which has the turn, is performed, or left
abbrev pub IsServed : Code → ℕ → CoreValue → ℕ → Talked → CoreValue → Type 0
IsServed code limit old n talked.Enough new = Passes code limit old n new × FitsCore code limit new
IsServed code limit old n talked.Left new = (new ≡ old) × IsLeft code limit old n
IsServed code limit old n talked.Nobody new = ⊥
IsServed code limit old n talked.Running new = ⊥

-- goroutine n has the turn, and is parked at this clock
pub record IsActor (core : CoreValue) (n clock : ℕ) : Type 0 where
  pub turn : HasTurn core n
  pub parked : waiting_clock (slice_index_or core.rows n None) ≡ Some clock

-- why no move follows: nobody has the turn and nobody can be lent, the goroutine to lend next computes, or the request of the one that has the
-- turn is left
abbrev pub Stops : Code → ℕ → ℕ → CoreValue → Talked → CoreValue → Type 0
Stops code limit quantum old talked.Enough new = ⊥
Stops code limit quantum old talked.Nobody new = (new ≡ old) × (to_lend old ≡ None) × ((n : ℕ) → HasTurn old n → ⊥)
Stops code limit quantum old talked.Running new = Works code limit quantum old (Some false) new
Stops code limit quantum old talked.Left new = (new ≡ old) × ((n : ℕ) × HasTurn old n × IsLeft code limit old n)

abbrev pub is_enough : Talked → Bool
is_enough talked.Enough = true
is_enough talked.Nobody = false
is_enough talked.Running = false
is_enough talked.Left = false

-- moves, and why they ended; `Enough` if at least this many were made
abbrev pub Talks : Code → ℕ → ℕ → ℕ → CoreValue → Talked → CoreValue → Type 0
Talks code limit quantum least old talked.Enough new = (k : ℕ) × (least ≤ k) × Moves code limit quantum k old new
Talks code limit quantum least old came new = (k : ℕ) × (mid : CoreValue) × Moves code limit quantum k old mid × Stops code limit quantum mid came new

-- moves, and local steps of the goroutine to lend next, perhaps
abbrev pub FailsTalk : Code → ℕ → ℕ → CoreValue → CoreValue → Type 0
FailsTalk code limit quantum old new = (k : ℕ) × (mid : CoreValue) × Moves code limit quantum k old mid × ((new ≡ mid) ⊎ ((answer : Option Bool) × Works code limit quantum mid answer new))
