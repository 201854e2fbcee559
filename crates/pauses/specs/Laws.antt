-- What a goroutine that keeps to a plan may do: given the same replies, it makes the same requests in the same order.
use Rattle.std.specs.Prelude.{◌≡◌, ℕ, Bool, true, ◌&&◌, ◌⊎◌, List, [], ◌∷◌, Option, Some}
use Rattle.std.specs.List.{list_any}
use Rattle.std.specs.Option.{is_some}
use Rattle.word.specs.declared.value.Word.{Word}
use Rattle.word.specs.declared.request.Case.{Case}
use Rattle.word.specs.Values.{Item, Request, Go, Select, Reply, Clause, Default}
use Rattle.word.specs.Kinds.{Slides, Ticks, Asks, Suits}
use Rattle.word.specs.Related.{Parts}
use Rattle.pauses.specs.Paused.{way_in}
use Rattle.pauses.specs.Selects.{is_same_channel, is_same_direction, off}

-- from the one state to the other a goroutine makes these requests, and gets these replies
pub data Story {S : Type 0} (K : Parts S) : S → List (Request × Reply) → S → Type 0 where
  over : {s : S} → Story K s [] s
  slides : {s t u : S} {story : List (Request × Reply)} → K.next s ≡ Slides t → Story K t story u → Story K s story u
  ticks : {s t u : S} {story : List (Request × Reply)} → K.next s ≡ Ticks t → Story K t story u → Story K s story u
  asks : {s u : S} {q : Request} {reply : Reply} {story : List (Request × Reply)} → K.next s ≡ Asks q → Suits q reply → Story K (K.answer s reply) story u → Story K s ((q, reply) ∷ story) u

-- each clause is the select's, or is on nil instead
abbrev pub ArePart : List Case → List Case → Type 0
ArePart [] [] = Unit {0}
ArePart [] (y ∷ ys) = ⊥
ArePart (x ∷ xs) [] = ⊥
ArePart (x ∷ xs) (y ∷ ys) = ((y ≡ x) ⊎ (y ≡ off x)) × ArePart xs ys

-- a clause is on channel c, in this direction
abbrev pub is_on : (c : ℕ) (sends : Bool) → Case → Bool
is_on c sends x = is_same_channel x.chan (Some c) && is_same_direction (is_some x.item) sends

-- the one select has a clause on a channel, in a direction, exactly if the other has one: so it is ready exactly if the other is
abbrev pub OffersAlike : List Case → List Case → Type 0
OffersAlike cases some = (c : ℕ) (sends : Bool) → list_any (is_on c sends) some ≡ list_any (is_on c sends) cases

-- a goroutine that made the second request, and got this reply, goes on as if it had made the first
pub data Serves : Request → Request → Reply → Type 0 where
  itself : {q : Request} {reply : Reply} → Serves q q reply
  -- with its way in front of the arguments
  named : {function : ℕ} {args words : List Word} {reply : Reply} → (way_in words).1 ≡ args → Serves (Go function args) (Go function words) reply
  -- with fewer clauses, none of which is missed
  thinned : {cases some : List Case} {default : Bool} {reply : Reply} → ArePart cases some → OffersAlike cases some → Serves (Select cases default) (Select some default) reply
  -- a clause was tried, and done
  tried : {cases some : List Case} {default : Bool} {clause : ℕ} {got : Option (Item × Bool)} → ArePart cases some → Serves (Select cases default) (Select some true) (Clause clause got)

-- Like a story, but some clauses of a select may have been tried in vain before it is made, and requests serve others
pub data Retold {S : Type 0} (K : Parts S) : S → List (Request × Reply) → S → Type 0 where
  over : {s : S} → Retold K s [] s
  slides : {s t u : S} {story : List (Request × Reply)} → K.next s ≡ Slides t → Retold K t story u → Retold K s story u
  ticks : {s t u : S} {story : List (Request × Reply)} → K.next s ≡ Ticks t → Retold K t story u → Retold K s story u
  asks : {s u : S} {q asked : Request} {reply : Reply} {story : List (Request × Reply)} → K.next s ≡ Asks q → Serves q asked reply → Retold K (K.answer s reply) story u → Retold K s ((asked, reply) ∷ story) u
  tries : {s u : S} {cases some : List Case} {default : Bool} {story : List (Request × Reply)} → K.next s ≡ Asks (Select cases default) → ArePart cases some → Retold K s story u → Retold K s ((Select some true, Default) ∷ story) u
