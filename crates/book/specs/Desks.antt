-- The book of a run.
use Rattle.std.specs.Prelude.{◌≡◌, ℕ, ◌+◌, ◌*◌, ◌≤◌, ◌^◌, ◌++◌, Bool, false, true, cond, [], List, ◌∷◌, length, drop, take, Some, None, IfSome, slice_get, slice_index_or, slice_set}
use Rattle.std.specs.Option.{is_some, option_map, MatchOption}
use Rattle.bytecode.specs.Code.{Code}
use Rattle.bytecode.specs.Machine.{code_kind}
use Rattle.bytecode.specs.Rules.{IsVerified}
use Rattle.clock_table.specs.declared.view.Row.{Row as Word}
use Rattle.clock_table.specs.declared.view.Row.TheVariants.{Home, Lent}
use Rattle.clock_table.specs.Clocks.{IsLentOn, RowFits, loan_for, looked, opening_rows, row as word_at}
use Rattle.logical_clock.specs.declared.key.Key.{Key}
use Rattle.logical_clock.specs.declared.limits.TheConstants.{MAX_GOROUTINES}
use Rattle.logical_clock.specs.Order.{is_before, keys, least}
use Rattle.turn_rule.specs.declared.Row.{Row}
use Rattle.turn_rule.specs.Schedule.{Stands}
use Rattle.word.specs.declared.end.End.{End as Ending}
use Rattle.word.specs.declared.request.Event.{Event as Recorded}
use Rattle.word.specs.Values.{Event}
use Rattle.word.specs.Kinds.{asks}
use Rattle.word.specs.Views.{event_of}
use Rattle.word.specs.Worlds.{end_of, moment, rules}
use Rattle.tracer.specs.Trace.{trace, traceline}
use Rattle.book.specs.declared.settled.Reached.{Reached}
use Rattle.book.specs.declared.settled.Reached.TheVariants as reached
use Rattle.book.specs.declared.settled.Settled.{Settled}
use Rattle.book.specs.declared.settled.Settled.TheVariants.{Committed, Waiting, Ended}
use Rattle.world_core_base.specs.Cores.{CodeMachine, CoreValue, FitsCore, HasLease, HasTurn, IsCoreOf, IsLentRow, Performs, bytes_of, opened_core, shared_of}
use Rattle.world_core_base.specs.Slots.{IsBefore, Rows, State, lent_row, raised_row, waiting_clock}

-- ---- what is seen of the one-thread run of a code

-- the event of the run that has `before` events before it
abbrev pub IsEvent : Code → ℕ → ℕ → Event → Type 0
IsEvent code limit before event =
    (n : ℕ) × (slice_get (moment (code_kind code) limit n).shared.shared.events before ≡ Some event)

-- the bytes are at offset `from` of the output
abbrev pub IsPiece : Code → ℕ → ℕ → List ℕ → Type 0
IsPiece code limit from bytes =
    (n : ℕ) × (from + length bytes ≤ length (moment (code_kind code) limit n).shared.shared.output)
    × (take (length bytes) (drop from (moment (code_kind code) limit n).shared.shared.output) ≡ bytes)

-- the bytes are at offset `from` of the trace
abbrev pub IsTracePiece : Code → ℕ → ℕ → List ℕ → Type 0
IsTracePiece code limit from bytes =
    (n : ℕ) × (from + length bytes ≤ length (trace (moment (code_kind code) limit n).shared.shared.events))
    × (take (length bytes) (drop from (trace (moment (code_kind code) limit n).shared.shared.events)) ≡ bytes)

-- what is kept of the trace: all of it, or nothing if nobody reads it
abbrev pub kept_trace : Bool → List Event → List ℕ
kept_trace true events = trace events
kept_trace false events = []

-- like `kept_trace`, of one event's line
abbrev pub kept_line : Bool → Event → List ℕ
kept_line true event = traceline event
kept_line false event = []

-- the run ends so, after `before` events and `size` bytes of output; of its trace `trace_size` bytes are kept
pub record IsEnd (code : Code) (limit : ℕ) (traces : Bool) (before size trace_size : ℕ) (last : Ending) : Type 0 where
  pub moves : ℕ
  pub events : length (moment (code_kind code) limit moves).shared.shared.events ≡ before
  pub bytes : length (moment (code_kind code) limit moves).shared.shared.output ≡ size
  pub lines : length (kept_trace traces (moment (code_kind code) limit moves).shared.shared.events) ≡ trace_size
  pub ending : end_of (moment (code_kind code) limit moves) ≡ Some last

-- ---- the book

pub record Desk : Type 0 where
  pub code : Code
  pub limit : ℕ
  pub core : CoreValue
  -- how many bytes of the output were taken out, and those that were not
  pub taken : ℕ
  pub pending : List ℕ
  -- whether lines of the trace are kept; how many bytes of them were taken out, and those that were not
  pub traces : Bool
  pub traced : ℕ
  pub lines : List ℕ
  -- what is known of the word of each slot, and how many looks were made
  pub words : List Word
  pub looks : ℕ

-- the machine m is this desk's, and is where the one-thread run is after n moves
pub record IsAt (d : Desk) (n : ℕ) (m : CodeMachine) : Type 0 where
  pub stands : Stands (rules (code_kind d.code) d.limit) m (moment (code_kind d.code) d.limit n)
  pub core : IsCoreOf m d.core
  pub size : length (shared_of m).output ≡ d.taken + length d.pending
  pub bytes : drop d.taken (shared_of m).output ≡ d.pending
  pub trace_size : length (kept_trace d.traces (shared_of m).events) ≡ d.traced + length d.lines
  pub trace_bytes : drop d.traced (kept_trace d.traces (shared_of m).events) ≡ d.lines

pub record IsDesk (d : Desk) : Type 0 where
  pub verified : IsVerified d.code
  pub limit : d.limit ≤ 2 ^ 62
  pub many : d.core.events ≤ 2 ^ 62
  pub room : d.taken + length d.pending ≤ d.core.events * 2 ^ 64
  pub trace_room : d.traced + length d.lines ≤ d.core.events * 2 ^ 64
  pub fits : FitsCore d.code d.limit d.core
  pub at : (n : ℕ) × (m : CodeMachine) × IsAt d n m

-- no event is committed, goroutine 1 is alone, and no slot is lent
abbrev pub opened_desk : Code → ℕ → (traces : Bool) → Desk
opened_desk code limit traces = record {
  code = code;
  limit = limit;
  core = opened_core code;
  taken = 0;
  pending = [];
  traces = traces;
  traced = 0;
  lines = [];
  words = opening_rows MAX_GOROUTINES;
  looks = 0;
}

-- ---- leases

-- a lease as contracts see it
pub record Held : Type 0 where
  pub code : Code
  pub limit : ℕ
  pub number : ℕ
  pub base : State
  pub present : State
  -- its slot of the table, and the clock that it published last
  pub slot : ℕ
  pub published : ℕ

-- the goroutine is lent in this state, and its clock is in the slot's word
abbrev pub lent_desk : Desk → Held → Desk
lent_desk d l = record d {
  core = record d.core { rows = slice_set d.core.rows l.number (Some (lent_row l.base)) };
  words = slice_set d.words l.slot (Lent (loan_for d.code d.limit l.number l.base) l.base.clock);
}

-- the lease is out: of this program and limit, the lent goroutine is still in the lent state, and the slot's word is the lease's
pub record IsLent (d : Desk) (l : Held) : Type 0 where
  pub code : d.code ≡ l.code
  pub limit : d.limit ≡ l.limit
  pub row : IsLentRow d.core.rows l.number l.base
  pub word : IsLentOn (loan_for d.code d.limit l.number l.base) (word_at d.words l.slot)

-- a lease that is out stays out
abbrev pub KeepsLeases : Desk → Desk → Type 0
KeepsLeases old new = (l : Held) → IsLent old l → IsLent new l

-- the present state is put back, before an end
abbrev pub back_core : Desk → Held → CoreValue
back_core d l =
    cond (is_some d.core.ending) d.core (record d.core {
      rows = slice_set d.core.rows l.number (Some (record {
        state = l.present;
        floor = l.present.clock;
        lease = None;
        parked = is_some (asks (code_kind d.code) d.limit l.present);
      }));
    })

-- and the slot's word is no longer lent
abbrev pub brought : Desk → Held → Desk
brought d l = record d { core = back_core d l; words = slice_set d.words l.slot (Home l.published) }

-- ---- looks at published clocks

-- a look at the word of goroutine `number`, in this slot, found this clock
pub record Sighting : Type 0 where
  pub number : ℕ
  pub slot : ℕ
  pub found : ℕ

-- the goroutine is lent, the slot's word is its lease's, and held that clock
pub record IsSight (d : Desk) (x : Sighting) : Type 0 where
  pub row : Row State
  pub here : slice_index_or d.core.rows x.number None ≡ Some row
  pub lent : is_some row.lease ≡ true
  pub word : IsLentOn (loan_for d.code d.limit x.number row.state) (word_at d.words x.slot)
  pub held : RowFits x.found (word_at d.words x.slot)

-- its floor is the clock that was found
abbrev pub seen_desk : Sighting → Desk → Desk
seen_desk x d = record d {
  core = record d.core { rows = slice_set d.core.rows x.number (option_map (raised_row x.found) (slice_index_or d.core.rows x.number None)) };
  words = slice_set d.words x.slot (looked x.found (word_at d.words x.slot));
  looks = d.looks + 1;
}

-- these looks were made one after the other, the last one first
abbrev pub Looks : Desk → List Sighting → Desk → Type 0
Looks old [] new = new ≡ old
Looks old (x ∷ xs) new = (mid : Desk) × Looks old xs mid × IsSight mid x × (new ≡ seen_desk x mid)

-- nothing but looks was made
abbrev pub OnlyLooks : Desk → Desk → Type 0
OnlyLooks old new = (seen : List Sighting) × Looks old seen new

-- the last look was at n, and found its floor
pub record IsSeen (old new : Desk) (n : ℕ) : Type 0 where
  pub sight : Sighting
  pub earlier : List Sighting
  pub looks : Looks old (sight ∷ earlier) new
  pub number : sight.number ≡ n
  pub floor : IfSome (slice_index_or new.core.rows n None) (λ (row : Row State). row.floor ≡ sight.found)

-- ---- settling

-- the run goes on, n is awake and not parked, and its floor is below the least parked key, or no goroutine is parked
pub record StandsBefore (core : CoreValue) (n : ℕ) : Type 0 where
  pub going : core.ending ≡ None
  pub row : Row State
  pub here : slice_index_or core.rows n None ≡ Some row
  pub runs : row.parked ≡ false
  pub below : MatchOption (least (keys waiting_clock 0 core.rows)) (Unit {0}) (λ k. is_before (record { clock = row.floor; number = n }) k ≡ true)

-- the request of the goroutine that has the turn is performed: the run's next event, which leaves the world that performing
-- leaves, and whose bytes and line are appended to those not taken out
pub record CommitsNext (old : Desk) (event : Recorded) (new : Desk) : Type 0 where
  pub number : ℕ
  pub turn : HasTurn old.core number
  pub performs : Performs old.code old.limit old.core number event (bytes_of event) new.core
  pub is_next : IsEvent old.code old.limit old.core.events (event_of event)
  pub one_more : new.core.events ≡ old.core.events + 1
  pub pending : new.pending ≡ old.pending ++ bytes_of event
  pub code : new.code ≡ old.code
  pub limit : new.limit ≡ old.limit
  pub taken : new.taken ≡ old.taken
  pub lines : new.lines ≡ old.lines ++ kept_line old.traces (event_of event)
  pub traces : new.traces ≡ old.traces
  pub traced : new.traced ≡ old.traced
  pub words : new.words ≡ old.words
  pub looks : new.looks ≡ old.looks

-- n stands before the next event, and if it is lent, its floor is what a look has found now
pub record Waits (old : Desk) (n : ℕ) (new : Desk) : Type 0 where
  pub only : OnlyLooks old new
  pub stands : StandsBefore new.core n
  pub seen : HasLease new.core.rows n → IsSeen old new n

-- looks, and one event more, the run's next one; or looks, and a goroutine that stands before it; or the run's end
abbrev pub Settles : Desk → Settled → Desk → Type 0
Settles old (Committed event) new = (mid : Desk) × OnlyLooks old mid × CommitsNext mid event new
Settles old (Waiting n) new = Waits old n new
Settles old (Ended ending) new =
    (new ≡ old) × IsEnd old.code old.limit old.traces old.core.events (old.taken + length old.pending) (old.traced + length old.lines) ending

-- a `Reached` with its event, as a `Settled`
abbrev pub settled_by : Reached → Recorded → Settled
settled_by reached.Committed event = Committed event
settled_by (reached.Waiting n) event = Waiting n
settled_by (reached.Ended ending) event = Ended ending
