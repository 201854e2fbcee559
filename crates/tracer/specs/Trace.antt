-- The events of a run, one a line: the actor's clock, its number, its request and the outcome.
use Rattle.std.specs.Prelude.{◌≡◌, ℕ, ◌-◌, false, List, [], ◌∷◌, ◌++◌, Option, Some, None, codes, decimal, length, slice_get, take}
use Rattle.std.specs.Fmt.{signed_decimal}
use Rattle.std.specs.Io.KnownBytes.{Appends}
use Rattle.std.specs.List.{flat_map}
use Rattle.word.specs.declared.value.Word.TheVariants.{Int, Chan}
use Rattle.word.specs.declared.panic.Panic.{Panic as Cause}
use Rattle.word.specs.declared.panic.Panic.TheVariants.{DivideByZero, SendOnClosed, CloseOfClosed, CloseOfNil, NegativeShift, ChannelSize, CallDepth, TooManyGoroutines, TooManyChannels}
use Rattle.word.specs.declared.request.Case.{Case}
use Rattle.word.specs.declared.end.End.{End as Ending}
use Rattle.word.specs.Kinds.{GoroutineKind}
use Rattle.word.specs.Worlds.{end_of, moment}
use Rattle.word.specs.Values.{Item, Request, Make, Go, Send, Receive, Close, Select, Len, Cap, Print, End, Exit, Panic, Exhausted, Value, Received, Clause, Default, EventOutcome, Done, Sleeps, Panics, Event}

-- the number of a panic
abbrev pub panic_number : Cause → ℕ
panic_number DivideByZero = 1
panic_number SendOnClosed = 2
panic_number CloseOfClosed = 3
panic_number CloseOfNil = 4
panic_number NegativeShift = 5
panic_number ChannelSize = 6
panic_number CallDepth = 7
panic_number TooManyGoroutines = 8
panic_number TooManyChannels = 9

-- a panic, as `panic P2`
abbrev pub panic_text : Cause → List ℕ
panic_text cause = codes "panic P" ++ decimal (panic_number cause)

-- a channel: its number, or `nil`
abbrev pub channel_text : Option ℕ → List ℕ
channel_text None = codes "nil"
channel_text (Some number) = decimal number

-- the outcome of a request; `done` if it is done and its actor's reply says no more
abbrev pub outcome_text : EventOutcome → (done : List ℕ) → List ℕ
outcome_text (Done (Value (Int number))) done = signed_decimal number
outcome_text (Done (Value (Chan channel))) done = channel_text channel
outcome_text (Done (Received _ false)) done = codes "closed"
outcome_text (Done (Clause _ (Some (_, false)))) done = codes "closed"
outcome_text (Done Default) done = codes "default"
outcome_text (Done _) done = done
outcome_text Sleeps done = codes "sleeps"
outcome_text (Panics cause _) done = panic_text cause

-- the first partner after this word, as `to 2`, or `done` if nobody was woken or started
abbrev pub partner_text : (word : List ℕ) (partners : List ℕ) → List ℕ
partner_text word [] = codes "done"
partner_text word (number ∷ _) = word ++ decimal number

-- the outcome of an event's request, its first partner after this word
abbrev pub result_text : (word : List ℕ) → Event → List ℕ
result_text word e = outcome_text e.outcome (partner_text word e.partners)

-- a send, as `send 1 to 2`, and a receive, as `receive 1 closed`
abbrev pub send_text : (channel : Option ℕ) → Event → List ℕ
send_text channel e = codes "send " ++ channel_text channel ++ codes " " ++ result_text (codes "to ") e

abbrev pub receive_text : (channel : Option ℕ) → Event → List ℕ
receive_text channel e = codes "receive " ++ channel_text channel ++ codes " " ++ result_text (codes "from ") e

-- the goroutines that a close wakes, as ` wakes 2 3`
abbrev pub woken_text : (woken : List ℕ) → List ℕ
woken_text [] = []
woken_text (first ∷ rest) = codes " wakes" ++ flat_map (λ number. codes " " ++ decimal number) (first ∷ rest)

-- what stands after `close 1`: nothing, the partners, or a panic
abbrev pub close_text : EventOutcome → (partners : List ℕ) → List ℕ
close_text (Panics cause _) partners = codes " " ++ panic_text cause
close_text (Done _) partners = woken_text partners
close_text Sleeps partners = codes " sleeps"

-- the clause of a select that was done or panicked, counted from 1
abbrev pub clause_number : EventOutcome → Option ℕ
clause_number (Done (Clause number _)) = Some number
clause_number (Panics _ number) = Some number
clause_number _ = None

-- a clause of a select that sends if it has an item
abbrev pub operation_text : Option Item → (channel : Option ℕ) → Event → List ℕ
operation_text (Some _) channel e = send_text channel e
operation_text None channel e = receive_text channel e

abbrev pub clause_text : Option Case → Event → List ℕ
clause_text (Some clause) e = operation_text clause.item clause.chan e
clause_text None e = result_text [] e

-- what stands after `select `, as `case 1 receive 2 done`
abbrev pub select_text : List Case → (number : Option ℕ) → Event → List ℕ
select_text cases None e = result_text [] e
select_text cases (Some number) e = codes "case " ++ decimal number ++ codes " " ++ clause_text (slice_get cases (number - 1)) e

-- the request and the outcome
abbrev pub request_text : Request → Event → List ℕ
request_text (Make _ _) e = codes "make " ++ result_text [] e
request_text (Go _ _) e = codes "go " ++ result_text [] e
request_text (Send channel _) e = send_text channel e
request_text (Receive channel) e = receive_text channel e
request_text (Close channel) e = codes "close " ++ channel_text channel ++ close_text e.outcome e.partners
request_text (Select cases _) e = codes "select " ++ select_text cases (clause_number e.outcome) e
request_text (Len channel) e = codes "len " ++ channel_text channel ++ codes " " ++ result_text [] e
request_text (Cap channel) e = codes "cap " ++ channel_text channel ++ codes " " ++ result_text [] e
request_text (Print bytes) e = codes "print " ++ decimal (length bytes)
request_text End e = codes "end"
request_text Exit e = codes "exit"
request_text (Panic cause) e = panic_text cause
request_text Exhausted e = codes "exhausted"

-- the line of an event
abbrev pub traceline : Event → List ℕ
traceline e = decimal e.clock ++ codes " " ++ decimal e.number ++ codes " " ++ request_text e.request e ++ codes "\n"

-- the lines of all events, in order
abbrev pub trace : List Event → List ℕ
trace events = flat_map traceline events

-- what was written after the old contents begins the trace of the one-thread run
abbrev pub BeginsTrace : GoroutineKind → ℕ → Option (List ℕ) → Option (List ℕ) → Type 0
BeginsTrace K limit old new = (n : ℕ) × (k : ℕ) × Appends old new (take k (trace (moment K limit n).shared.shared.events))

-- it is all of it, and the run ends so
abbrev pub IsWholeTrace : GoroutineKind → ℕ → Option (List ℕ) → Option (List ℕ) → Ending → Type 0
IsWholeTrace K limit old new ending =
    (n : ℕ) × Appends old new (trace (moment K limit n).shared.shared.events) × (end_of (moment K limit n) ≡ Some ending)
