-- Small programs with all ends that Go allows of them.
use Rattle.std.specs.Prelude.{◌↔◌, ℕ, pos, Bool, List, [], ◌∷◌, Some, None, slice_index_or}
use Rattle.word.specs.declared.end.End.{End as Ending}
use Rattle.word.specs.declared.value.Word.TheVariants.{Int}
use Rattle.word.specs.Values.{Request, Make, Go, Send, Receive, Close, Select, Print, End, Reply, Value, Received, Clause, Default}
use Rattle.word.specs.Kinds.{Next, Ticks, Asks, GoroutineKind}
use Rattle.allowed.specs.Orders.{IsOneOf, Allowed}

-- what a goroutine does, one after the other
pub data Act : Type 0 where
  -- a step that costs a tick
  Works : Act
  Requests : (request : Request) → Act
  -- the reply is printed, as one byte
  Shows : (request : Request) → Act

-- an item's first word, a clause's number, 0 for the default
abbrev pub shown : Reply → List ℕ
shown (Value (Int (pos n))) = n ∷ []
shown (Received (Int (pos n) ∷ words) ok) = n ∷ []
shown (Clause clause got) = clause ∷ []
shown Default = 0 ∷ []
shown reply = []

abbrev pub next_act : List Act → Next (List Act)
next_act [] = Asks End
next_act (Works ∷ rest) = Ticks rest
next_act (Requests request ∷ rest) = Asks request
next_act (Shows request ∷ rest) = Asks request

abbrev pub after_act : List Act → Reply → List Act
after_act [] reply = []
after_act (Shows request ∷ rest) reply = Requests (Print (shown reply)) ∷ rest
after_act (act ∷ rest) reply = rest

-- goroutines that run these functions; main is the first one
abbrev pub program : List (List Act) → GoroutineKind
program functions = record {
  State = List Act;
  next = next_act;
  answer = after_act;
  begin = λ function args. slice_index_or functions function [];
  main = 0;
}

-- Go allows these ends and no others: what is printed, and the end
pub record HasExactly (K : GoroutineKind) (listed : List (List ℕ × Ending)) : Type 0 where
  pub each : (output : List ℕ) (ending : Ending) → Allowed K output ending ↔ IsOneOf (output, ending) listed

-- ---- requests on the channel that main makes first, which has number 1

abbrev pub make : ℕ → Act
make capacity = Requests (Make (pos capacity) (Int (pos 0) ∷ []))

abbrev pub go : ℕ → Act
go function = Requests (Go function [])

abbrev pub send : ℕ → Act
send n = Requests (Send (Some 1) (Int (pos n) ∷ []))

abbrev pub receive : Act
receive = Shows (Receive (Some 1))

abbrev pub close : Act
close = Requests (Close (Some 1))

abbrev pub print : ℕ → Act
print n = Requests (Print (n ∷ []))

-- a select that sends n, and one that receives
abbrev pub select_send : ℕ → Bool → Act
select_send n default = Shows (Select (record { chan = Some 1; item = Some (Int (pos n) ∷ []) } ∷ []) default)

abbrev pub select_receive : Bool → Act
select_receive default = Shows (Select (record { chan = Some 1; item = None } ∷ []) default)
