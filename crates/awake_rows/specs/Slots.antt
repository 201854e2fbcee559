-- Goroutines as a core keeps them.
use Rattle.std.specs.Prelude.{◌≡◌, ◌≢◌, ℕ, ◌||◌, Bool, true, false, cond, List, [], ◌∷◌, Option, Some, None, IfSome, slice_index_or, slice_set}
use Rattle.std.specs.Option.{MatchOption, is_some, option_map}
use Rattle.bytecode.specs.Code.{Code}
use Rattle.bytecode.specs.Machine.{Frames, code_kind}
use Rattle.goroutine_vm.specs.Advance.{Goes, IsStateOf, steps}
use Rattle.goroutine_vm_request.specs.declared.talks.Talk.{Talk}
use Rattle.goroutine_vm_request.specs.declared.talks.Talk.TheVariants as talks
use Rattle.goroutine_vm_request.specs.Talks.{talk_of}
use Rattle.logical_clock.specs.declared.key.Key.{Key}
use Rattle.logical_clock.specs.Order.{is_before}
use Rattle.turn_rule.specs.declared.Lease.{Lease as Loan}
use Rattle.turn_rule.specs.declared.Row.{Row}
use Rattle.turn_rule.specs.declared.Step.{Step}
use Rattle.turn_rule.specs.declared.Step.TheVariants.{Lend, Local, Publish, Look, Return, Settle}
use Rattle.turn_rule.specs.Schedule.{give_back, lend, local, look, publish}
use Rattle.word.specs.Kinds.{Clocked, asks, told}
use Rattle.word.specs.Values.{Reply, Nothing, Received}
use Rattle.word.specs.Worlds.{rules}
use Rattle.awake_rows.specs.declared.replies.WordReply.{WordReply}
use Rattle.awake_rows.specs.declared.replies.WordReply.TheVariants as replies
use Rattle.awake_rows.specs.declared.slot.Held.{Held}
use Rattle.awake_rows.specs.declared.slot.Held.TheVariants.{Here, Lent, Ahead}
use Rattle.awake_rows.specs.declared.turns.Among.{Among}
use Rattle.awake_rows.specs.declared.turns.Among.TheVariants as among

abbrev pub State : Type 0
State = Clocked Frames

-- goroutine n, if it is awake, is at index n
abbrev pub Rows : Type 0
Rows = List (Option (Row State))

-- goroutine n, if it is asleep, fell asleep in the state at index n
abbrev pub Beds : Type 0
Beds = List (Option State)

-- the state, also of one that was moved out
abbrev pub held_state : Held → State
held_state (Here state) = state
held_state (Lent kept) = kept.value
held_state (Ahead ahead) = ahead.value.base

-- the loan of a state that was moved out
abbrev pub lease_of : Held → Option (Loan State)
lease_of (Here state) = None
lease_of (Lent kept) = Some (record { present = kept.value; published = kept.value.clock })
lease_of (Ahead ahead) = Some (record { present = ahead.value.present; published = ahead.value.published })

-- the floor of one that is not lent is its clock, and one that is lent is not parked
abbrev pub IsFloor : Held → ℕ → Bool → Type 0
IsFloor (Here state) floor parked = floor ≡ state.clock
IsFloor (Lent kept) floor parked = parked ≡ false
IsFloor (Ahead ahead) floor parked = parked ≡ false

-- if there is a goroutine here, it is not lent
abbrev pub IsUnlent : Option (Row State) → Type 0
IsUnlent row = IfSome row (λ row. row.lease ≡ None)

-- the clock of one that is awake, neither lent nor parked
abbrev pub free_clock : Option (Row State) → Option ℕ
free_clock None = None
free_clock (Some row) = cond (is_some row.lease || row.parked) None (Some row.state.clock)

abbrev pub IsAwake : Rows → ℕ → Type 0
IsAwake rows n = (row : Row State) × (slice_index_or rows n None ≡ Some row)

abbrev pub IsNobodyAwake : Rows → Type 0
IsNobodyAwake rows = (n : ℕ) → slice_index_or rows n None ≡ None

-- n is another one that is awake, and the key is not below its floor
abbrev pub IsBefore : Rows → Key → ℕ → Type 0
IsBefore rows k n = (row : Row State) × (slice_index_or rows n None ≡ Some row) × (n ≢ k.number) × (is_before k (record { clock = row.floor; number = n }) ≡ false)

-- the clock of one that is parked
abbrev pub waiting_clock : Option (Row State) → Option ℕ
waiting_clock None = None
waiting_clock (Some row) = cond row.parked (Some row.state.clock) None

-- the floor of one that is awake
abbrev pub floor_clock : Option (Row State) → Option ℕ
floor_clock None = None
floor_clock (Some row) = Some row.floor

-- the floor of one that is lent
abbrev pub lent_clock : Option (Row State) → Option ℕ
lent_clock None = None
lent_clock (Some row) = cond (is_some row.lease) (Some row.floor) None

-- its clock, if it is among those that are parked, or that may be lent; among all, its floor
abbrev pub clock_among : Among → Option (Row State) → Option ℕ
clock_among among.Parked row = waiting_clock row
clock_among among.Free row = free_clock row
clock_among among.Awake row = floor_clock row

-- as a slot keeps it: the floor of one that is not lent is its clock, and one that is parked is not lent
pub record KeepsFloor (row : Row State) : Type 0 where
  pub floor : row.lease ≡ None → row.floor ≡ row.state.clock
  pub unlent : row.parked ≡ true → row.lease ≡ None

-- ---- changes of a row

-- one that is not lent, parked or not
abbrev pub back_row : State → Bool → Row State
back_row state parked = record { state = state; floor = state.clock; lease = None; parked = parked }

-- one that may be lent
abbrev pub free_row : State → Row State
free_row state = record { state = state; floor = state.clock; lease = None; parked = false }

-- one whose floor is the clock that a look found
abbrev pub raised_row : ℕ → Row State → Row State
raised_row clock row = record row { floor = clock }

-- one that is lent in this state
abbrev pub lent_row : State → Row State
lent_row state = record { state = state; floor = state.clock; lease = Some (record { present = state; published = state.clock }); parked = false }

-- goroutine n may be lent, in this state
abbrev pub IsFreeIn : Rows → ℕ → State → Type 0
IsFreeIn rows n state = slice_index_or rows n None ≡ Some (free_row state)

-- goroutine n goes on with this reply, at this clock
abbrev pub answered_rows : Code → Rows → ℕ → ℕ → Reply → Rows
answered_rows code rows n clock reply = slice_set rows n (option_map (λ (row : Row State). free_row (told (code_kind code) row.state clock reply)) (slice_index_or rows n None))

-- a goroutine of this code and limit; one that is parked makes a request, and is not lent
pub record IsRowOf (code : Code) (limit : ℕ) (row : Row State) : Type 0 where
  pub state : IsStateOf code limit row.state
  pub present : IfSome row.lease (λ l. IsStateOf code limit l.present)
  pub asks : row.parked ≡ true → is_some (asks (code_kind code) limit row.state) ≡ true
  pub unlent : row.parked ≡ true → row.lease ≡ None

abbrev pub FitsRow : Code → ℕ → Option (Row State) → Type 0
FitsRow code limit row = IfSome row (IsRowOf code limit)

abbrev pub FitsAll : Code → ℕ → Rows → Type 0
FitsAll code limit rows = (k : ℕ) → FitsRow code limit (slice_index_or rows k None)

abbrev pub FitsBeds : Code → ℕ → Beds → Type 0
FitsBeds code limit beds = (k : ℕ) → IfSome (slice_index_or beds k None) (λ s. IsStateOf code limit s)

-- one that was in state `base` has made at most `quantum` local steps, and is parked if it makes a request; `answer` is whether it
-- does, and if it doesn't it has made all of them. If out of memory, `answer` is `None`, and it is not parked
abbrev pub IsWorked : Code → ℕ → ℕ → State → Option Bool → Row State → Type 0
IsWorked code limit quantum base answer row =
    Goes code limit quantum base row.state × IsStateOf code limit row.state × (row ≡ back_row row.state (is_some (asks (code_kind code) limit row.state)))
    × MatchOption answer (row.parked ≡ false) (λ asking. (asking ≡ row.parked) × (asking ≡ false → steps code limit quantum base ≡ row.state))

-- goroutine n, which may be lent, has made local steps at its index
abbrev pub WorksIn : Code → ℕ → ℕ → Rows → ℕ → Option Bool → Rows → Type 0
WorksIn code limit quantum old n answer new =
    (base : State) × (row : Row State) × IsFreeIn old n base × IsWorked code limit quantum base answer row × (new ≡ slice_set old n (Some row))

-- ---- talks

-- whether a goroutine with this talk is at a request
abbrev pub is_asking : Talk → Bool
is_asking (talks.Send k word) = true
is_asking (talks.Receive k) = true
is_asking talks.Other = true
is_asking talks.Running = false

-- the talk of goroutine n, if it is awake
abbrev pub talk_of_row : Code → ℕ → Option (Row State) → Talk
talk_of_row code limit None = talks.Other
talk_of_row code limit (Some row) = talk_of (asks (code_kind code) limit row.state)

-- the reply to a send, or to a receive of one word
abbrev pub word_reply : WordReply → Reply
word_reply replies.Sent = Nothing
word_reply (replies.Received word) = Received (word ∷ []) true

-- ---- one step of a schedule

-- a row after a step of its goroutine
abbrev pub stepped_row : Code → ℕ → Step → Row State → Row State
stepped_row code limit (Lend n) row = lend (rules (code_kind code) limit) row row.lease
stepped_row code limit (Local n) row = local (rules (code_kind code) limit) row row.lease
stepped_row code limit (Publish n) row = publish (rules (code_kind code) limit) row row.lease
stepped_row code limit (Look n) row = look (rules (code_kind code) limit) row row.lease
stepped_row code limit (Return n) row = give_back (rules (code_kind code) limit) row row.lease
stepped_row code limit Settle row = row

abbrev pub stepped_rows : Code → ℕ → Step → ℕ → Rows → Rows
stepped_rows code limit step n rows = slice_set rows n (option_map (stepped_row code limit step) (slice_index_or rows n None))
