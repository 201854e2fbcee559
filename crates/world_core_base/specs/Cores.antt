-- A world of goroutines without its lists of events and bytes.
use Rattle.std.specs.Prelude.{◌≡◌, ◌≢◌, ℕ, ◌+◌, ◌<◌, ◌≤◌, ◌^◌, ◌==◌, Bool, false, true, cond, List, [], ◌∷◌, ◌++◌, length, map, max, min, Option, Some, None, slice_index_or, slice_set}
use Rattle.std.specs.Option.{is_some, option_map}
use Rattle.bytecode.specs.Code.{Code}
use Rattle.bytecode.specs.Machine.{Frames, code_begin, code_kind}
use Rattle.bytecode.specs.Rules.{IsVerified}
use Rattle.channel_core.specs.Channels.{ChannelsValue, offers_at}
use Rattle.goroutine_vm.specs.Advance.{IsStateOf}
use Rattle.logical_clock.specs.declared.key.Key.{Key}
use Rattle.logical_clock.specs.Order.{keys, least}
use Rattle.turn_rule.specs.declared.Row.{Row}
use Rattle.turn_rule.specs.Schedule.{Machine, perform_row, has_turn}
use Rattle.word.specs.declared.end.End.{End as Ending}
use Rattle.word.specs.declared.end.End.TheVariants.{Finished, Panicked, Exhausted as RanOut}
use Rattle.word.specs.declared.request.Event.{Event as Recorded}
use Rattle.word.specs.declared.request.Request.{Request as Asked}
use Rattle.word.specs.declared.request.Request.TheVariants as asking
use Rattle.word.specs.Kinds.{asks, at, told}
use Rattle.word.specs.Requests.{Deed, Fate, GoesOn, Dozes, Leaves, Stays, asked, no_channel, partners}
use Rattle.word.specs.declared.value.Word.{Word}
use Rattle.logical_clock.specs.declared.limits.TheConstants.{MAX_GOROUTINES}
use Rattle.word.specs.Values.{Request, Close, End, Exit, Exhausted, Go, Panic, Reply, Nothing, EventOutcome, Done, Sleeps, Panics, Event, Sleeper, Shared}
use Rattle.word.specs.Views.{event_of}
use Rattle.word.specs.Worlds.{Bed, Rest, in_bed, rules}
use Rattle.awake_rows.specs.Slots.{State, Rows, Beds, FitsAll, FitsBeds, WorksIn, free_clock, free_row, waiting_clock}
pub use Rattle.awake_rows.specs.Slots.{IsFreeIn, answered_rows}

abbrev pub CodeMachine : Type 0
CodeMachine = Machine State (Rest Frames)

-- what all of a world share
abbrev pub shared_of : CodeMachine → Shared
shared_of m = m.shared.shared

pub record CoreValue : Type 0 where
  pub rows : Rows
  pub beds : Beds
  pub channels : ChannelsValue
  pub live : ℕ
  pub events : ℕ
  pub ending : Option Ending

-- each of the sleepers is asleep in the state that is kept for it
abbrev pub LieIn : Beds → List (Bed Frames) → List Sleeper → Type 0
LieIn beds all [] = Unit {0}
LieIn beds all (x ∷ xs) = (slice_index_or beds x.number None ≡ in_bed x.number all) × LieIn beds all xs

-- the world is this one, but for its lists of events and bytes
pub record IsCoreOf (m : CodeMachine) (core : CoreValue) : Type 0 where
  pub rows : core.rows ≡ m.rows
  pub beds : LieIn core.beds m.shared.beds core.channels.asleep
  pub channels : core.channels.channels ≡ (shared_of m).channels
  pub asleep : core.channels.asleep ≡ (shared_of m).asleep
  pub live : core.live ≡ (shared_of m).live
  pub made : length core.rows ≡ (shared_of m).made + 1
  pub events : core.events ≡ length (shared_of m).events
  pub ending : core.ending ≡ (shared_of m).ending

-- none of the numbers is n
abbrev pub Misses : ℕ → List ℕ → Type 0
Misses n [] = Unit {0}
Misses n (m ∷ ms) = (m ≢ n) × Misses n ms

-- each number occurs once
abbrev pub Once : List ℕ → Type 0
Once [] = Unit {0}
Once (n ∷ ns) = Misses n ns × Once ns

abbrev pub numbers : List Sleeper → List ℕ
numbers ss = map (λ (s : Sleeper). s.number) ss

-- its goroutines are of this code and limit, at most 16,384 are alive, each of those asleep sleeps once, a run that goes on
-- has had less than 2^62 events
pub record FitsCore (code : Code) (limit : ℕ) (core : CoreValue) : Type 0 where
  pub rows : FitsAll code limit core.rows
  pub beds : FitsBeds code limit core.beds
  pub size : length core.beds ≡ length core.rows
  pub live : core.live ≤ MAX_GOROUTINES
  pub once : Once (numbers core.channels.asleep)
  pub count : is_some core.ending ≡ false → core.events < 2 ^ 62

-- goroutine 1 alone, at the beginning of `main`
abbrev pub opened_core : Code → CoreValue
opened_core code = record {
  rows = None ∷ Some (free_row (at 0 (code_begin code (code_kind code).main []))) ∷ [];
  beds = None ∷ None ∷ [];
  channels = record { channels = no_channel ∷ []; asleep = [] };
  live = 1;
  events = 0;
  ending = None;
}

-- goroutine n is awake and at a request
pub record Asks (code : Code) (limit : ℕ) (rows : Rows) (n : ℕ) : Type 0 where
  pub row : Row State
  pub here : slice_index_or rows n None ≡ Some row
  pub state : IsStateOf code limit row.state
  pub asks : is_some (asks (code_kind code) limit row.state) ≡ true
  pub unlent : row.lease ≡ None

-- after `events` events, what goroutine n's request means: a return of goroutine 1 is an exit, and event number 2^62 is exhausted
abbrev pub meant_after : ℕ → ℕ → Request → Request
meant_after events n q = cond (events + 1 == 2 ^ 62) Exhausted (asked n q)

-- goroutine n has this clock, and its request means `means`
pub record IsAsked (code : Code) (limit : ℕ) (core : CoreValue) (n clock : ℕ) (means : Request) : Type 0 where
  pub row : Row State
  pub what : Request
  pub here : slice_index_or core.rows n None ≡ Some row
  pub state : IsStateOf code limit row.state
  pub time : row.state.clock ≡ clock
  pub request : asks (code_kind code) limit row.state ≡ Some what
  pub verified : IsVerified code
  pub meant : means ≡ meant_after core.events n what
  pub unlent : row.lease ≡ None

-- a request for a new goroutine
abbrev pub IsGo : Request → Type 0
IsGo (Go f args) = Unit {0}
IsGo q = ⊥

-- the outcome of a request that ends the run so
abbrev pub ended_as : Ending → EventOutcome
ended_as (Panicked cause) = Panics cause 0
ended_as end = Done Nothing

-- a request that ends the run so, with this outcome: an exit, the clock limit, or a panic
abbrev pub IsLast : Request → EventOutcome → Ending → Type 0
IsLast Exit o e = (o ≡ Done Nothing) × (e ≡ Finished)
IsLast Exhausted o e = (o ≡ Done Nothing) × (e ≡ RanOut)
IsLast (Panic cause) o e = (o ≡ Panics cause 0) × (e ≡ Panicked cause)
IsLast q o e = ⊥

-- an `Event` to which no event was written yet
abbrev pub no_event : Event
no_event = record { clock = 0; number = 0; request = End; outcome = Sleeps; partners = [] }

-- how many goroutines a request wakes at most: those that sleep at a channel that it closes, or one
abbrev pub most_woken : Request → List Sleeper → ℕ
most_woken (Close None) asleep = 0
most_woken (Close (Some k)) asleep = length (partners k asleep)
most_woken q asleep = 1

-- how many offers of different goroutines it meets at most
abbrev pub most_offered : Request → List Sleeper → ℕ
most_offered (Close None) asleep = 0
most_offered (Close (Some k)) asleep = min (offers_at k asleep) (length asleep)
most_offered q asleep = 1

-- how many partners the next event has at most: all that are asleep, or one that is started
abbrev pub most_partners : CoreValue → ℕ
most_partners core = max (length core.channels.asleep) 1

-- what a request prints
abbrev pub printed_by : Asked → List ℕ
printed_by (asking.Print text) = text.items
printed_by request = []

-- what an event prints
abbrev pub bytes_of : Recorded → List ℕ
bytes_of event = printed_by event.request

-- goroutine n's request is performed: this event, these bytes
pub record IsPerformed (code : Code) (limit : ℕ) (m : CodeMachine) (n : ℕ) (event : Recorded) (bytes : List ℕ) (new : CoreValue) : Type 0 where
  pub core : IsCoreOf (perform_row (rules (code_kind code) limit) m n (slice_index_or m.rows n None)) new
  pub events : (shared_of (perform_row (rules (code_kind code) limit) m n (slice_index_or m.rows n None))).events ≡ (shared_of m).events ++ event_of event ∷ []
  pub output : (shared_of (perform_row (rules (code_kind code) limit) m n (slice_index_or m.rows n None))).output ≡ (shared_of m).output ++ bytes

-- so it is in each world with this core
abbrev pub Performs : Code → ℕ → CoreValue → ℕ → Recorded → List ℕ → CoreValue → Type 0
Performs code limit old n event bytes new = (m : CodeMachine) → IsCoreOf m old → IsPerformed code limit m n event bytes new

-- ---- lending

-- the first to lend: of those awake, neither lent nor parked, the one of least key
abbrev pub to_lend : CoreValue → Option Key
to_lend core = cond (is_some core.ending) None (least (keys free_clock 0 core.rows))

-- the goroutine to lend next has made local steps; `answer` is whether it is then at a request, or None if out of memory
pub record Works (code : Code) (limit quantum : ℕ) (old : CoreValue) (answer : Option Bool) (new : CoreValue) : Type 0 where
  pub key : Key
  pub first : to_lend old ≡ Some key
  pub worked : WorksIn code limit quantum old.rows key.number answer new.rows
  pub rest : new ≡ record old { rows = new.rows }

-- goroutine n is lent in this state
abbrev pub IsLentRow : Rows → ℕ → State → Type 0
IsLentRow rows n base = (row : Row State) × (slice_index_or rows n None ≡ Some row) × (is_some row.lease ≡ true) × (row.state ≡ base)

-- goroutine n is awake, and lent
abbrev pub HasLease : Rows → ℕ → Type 0
HasLease rows n = (row : Row State) × (slice_index_or rows n None ≡ Some row) × (is_some row.lease ≡ true)

-- goroutine n is at its request, and has the turn
pub record HasTurn (core : CoreValue) (n : ℕ) : Type 0 where
  pub key : Key
  pub number : key.number ≡ n
  pub least : least (keys waiting_clock 0 core.rows) ≡ Some key
  pub turn : has_turn key 0 core.rows ≡ true
  pub going : core.ending ≡ None

-- ---- what a deed leaves

-- the beds without those of the goroutines that are woken
abbrev pub left_beds : Beds → List (ℕ × Reply) → Beds
left_beds beds [] = beds
left_beds beds (w ∷ ws) = left_beds (slice_set beds w.0 None) ws

-- the `beds` with this state at index n, if goroutine n falls asleep
abbrev pub actor_beds : Beds → ℕ → State → Fate → Beds
actor_beds beds n s Dozes = slice_set beds n (Some s)
actor_beds beds n s (GoesOn reply) = beds
actor_beds beds n s Leaves = beds
actor_beds beds n s Stays = beds

-- appends `None` for each started goroutine
abbrev pub new_places : {A : Type 0} → List (Option A) → List (ℕ × List Word) → List (Option A)
new_places places [] = places
new_places places (x ∷ xs) = new_places (places ++ None ∷ []) xs

module _ (code : Code) where
  -- the woken goroutines get their replies at this clock, and are awake
  abbrev pub woken_rows : Rows → Beds → ℕ → List (ℕ × Reply) → Rows
  woken_rows rows beds clock [] = rows
  woken_rows rows beds clock (w ∷ ws) =
      woken_rows (slice_set rows w.0 (option_map (λ (s : State). free_row (told (code_kind code) s clock w.1)) (slice_index_or beds w.0 None))) (slice_set beds w.0 None) clock ws

  -- the row of the acting goroutine afterwards
  abbrev pub actor_row : State → ℕ → Fate → Option (Row State)
  actor_row s clock (GoesOn reply) = Some (free_row (told (code_kind code) s clock reply))
  actor_row s clock Dozes = None
  actor_row s clock Leaves = None
  actor_row s clock Stays = Some (free_row s)

  -- the started goroutines
  abbrev pub new_rows : Rows → ℕ → List (ℕ × List Word) → Rows
  new_rows rows clock [] = rows
  new_rows rows clock (x ∷ xs) = new_rows (rows ++ Some (free_row (at clock (code_begin code x.0 x.1))) ∷ []) clock xs

  -- the core after a deed of goroutine n, which was in this state
  abbrev pub core_after : CoreValue → ℕ → State → Deed → CoreValue
  core_after core n s d =
      let clock = s.clock + 1 in
      record {
        rows = new_rows (woken_rows (slice_set core.rows n (actor_row s clock d.fate)) (actor_beds core.beds n s d.fate) clock d.woken) clock d.started;
        beds = new_places (left_beds (actor_beds core.beds n s d.fate) d.woken) d.started;
        channels = record { channels = d.shared.channels; asleep = d.shared.asleep };
        live = d.shared.live;
        events = core.events + 1;
        ending = d.shared.ending;
      }
