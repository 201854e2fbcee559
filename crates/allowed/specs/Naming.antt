-- Which channels a goroutine uses.
use Rattle.std.specs.Prelude.{◌≡◌, ◌⊎◌, ℕ, Bool, List, [], ◌∷◌, Option, Some, None}
use Rattle.word.specs.declared.request.Case.{Case}
use Rattle.word.specs.declared.value.Word.{Word}
use Rattle.word.specs.declared.value.Word.TheVariants.{Chan}
use Rattle.word.specs.Values.{Item, Request, Make, Go, Send, Receive, Close, Select, Len, Cap, Reply, Value, Received, Clause}
use Rattle.word.specs.Kinds.{Slides, Ticks, Asks, GoroutineKind}

abbrev pub InWords : ℕ → List Word → Type 0
InWords k [] = ⊥
InWords k (w ∷ ws) = (w ≡ Chan (Some k)) ⊎ InWords k ws

abbrev pub InItems : ℕ → List Item → Type 0
InItems k [] = ⊥
InItems k (x ∷ xs) = InWords k x ⊎ InItems k xs

abbrev pub InItem : ℕ → Option Item → Type 0
InItem k None = ⊥
InItem k (Some x) = InWords k x

abbrev pub InCases : ℕ → List Case → Type 0
InCases k [] = ⊥
InCases k (x ∷ xs) = ((x.chan ≡ Some k) ⊎ InItem k x.item) ⊎ InCases k xs

abbrev pub InRequest : ℕ → Request → Type 0
InRequest k (Make size zero) = InWords k zero
InRequest k (Go function args) = InWords k args
InRequest k (Send c item) = (c ≡ Some k) ⊎ InWords k item
InRequest k (Receive c) = c ≡ Some k
InRequest k (Close c) = c ≡ Some k
InRequest k (Select cases default) = InCases k cases
InRequest k (Len c) = c ≡ Some k
InRequest k (Cap c) = c ≡ Some k
InRequest k q = ⊥

abbrev pub InGot : ℕ → Option (Item × Bool) → Type 0
InGot k None = ⊥
InGot k (Some x) = InWords k x.0

abbrev pub InReply : ℕ → Reply → Type 0
InReply k (Value w) = w ≡ Chan (Some k)
InReply k (Received item ok) = InWords k item
InReply k (Clause i got) = InGot k got
InReply k reply = ⊥

-- a goroutine names no channel but those that it holds: those that it held, and those that it was given
pub record IsHonest (K : GoroutineKind) (holds : K.State → ℕ → Type 0) : Type 0 where
  pub steps : (s t : K.State) (k : ℕ) → (K.next s ≡ Slides t) ⊎ (K.next s ≡ Ticks t) → holds t k → holds s k
  pub asks : (s : K.State) (q : Request) (k : ℕ) → K.next s ≡ Asks q → InRequest k q → holds s k
  pub answers : (s : K.State) (reply : Reply) (k : ℕ) → holds (K.answer s reply) k → holds s k ⊎ InReply k reply
  pub begins : (function : ℕ) (args : List Word) (k : ℕ) → holds (K.begin function args) k → InWords k args
