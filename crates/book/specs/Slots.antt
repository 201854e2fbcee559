-- The slots of a book's table of clocks.
use Rattle.std.specs.Prelude.{◌≡◌, ◌≢◌, ℕ, Bool, false, true, List, None, Some, slice_index_or, unwrap_or}
use Rattle.std.specs.Option.{is_some}
use Rattle.bytecode.specs.Code.{Code}
use Rattle.clock_table.specs.declared.view.Loan.{Loan}
use Rattle.clock_table.specs.declared.view.Row.{Row as Word}
use Rattle.clock_table.specs.declared.view.Row.TheVariants.{Home, Lent, Back}
use Rattle.clock_table.specs.Clocks.{IsLentOn, loan_for, row as word_at}
use Rattle.slot_index.specs.Numbers.{Numbered, number_at, slot_of}
use Rattle.turn_rule.specs.declared.Row.{Row}
use Rattle.world_core_base.specs.Cores.{IsLentRow}
use Rattle.world_core_base.specs.Slots.{State}
use Rattle.book.specs.Desks.{Desk, IsDesk}

-- the slot of goroutine n, which has one
abbrev pub place_of : Numbered → ℕ → ℕ
place_of places n = unwrap_or (slot_of places n) 0

-- whether the slot is not lent
abbrev pub is_home : Word → Bool
is_home (Home c) = true
is_home (Lent loan seen) = false
is_home (Back was loan c) = false

-- a slot that no goroutine has is not lent
abbrev pub AreFree : Numbered → List Word → Type 0
AreFree places words = (s : ℕ) → number_at places s ≡ None → is_home (word_at words s) ≡ true

-- goroutine n has slot s, and the others' are as they were
pub record IsPlaced (old new : Numbered) (n s : ℕ) : Type 0 where
  pub here : slot_of new n ≡ Some s
  pub others : (k : ℕ) → k ≢ n → slot_of new k ≡ slot_of old k

-- goroutine n has no slot, and the others' are as they were
pub record IsTakenOut (old new : Numbered) (n : ℕ) : Type 0 where
  pub here : slot_of new n ≡ None
  pub others : (k : ℕ) → k ≢ n → slot_of new k ≡ slot_of old k

-- each goroutine's slot is as it was
abbrev pub SamePlaces : Numbered → Numbered → Type 0
SamePlaces old new = (k : ℕ) → slot_of new k ≡ slot_of old k

-- the loan is of a goroutine that is lent, which has slot s
pub record IsOut (d : Desk) (places : Numbered) (s : ℕ) (loan : Loan) : Type 0 where
  pub code : loan.code ≡ d.code
  pub limit : loan.limit ≡ d.limit
  pub row : IsLentRow d.core.rows loan.number loan.base
  pub place : slot_of places loan.number ≡ Some s

-- until the run ends, the word of a lent goroutine's slot is lent on the state that it was lent in; whatever word is lent, that goroutine
-- is; and a goroutine that has a slot is lent its word
pub record IsTied (d : Desk) (places : Numbered) : Type 0 where
  pub lent : is_some d.core.ending ≡ false → (n : ℕ) (row : Row State) → slice_index_or d.core.rows n None ≡ Some row → is_some row.lease ≡ true
      → IsLentOn (loan_for d.code d.limit n row.state) (word_at d.words (place_of places n))
  pub back : (s : ℕ) (loan : Loan) → IsLentOn loan (word_at d.words s) → IsOut d places s loan
  pub placed : (n s : ℕ) → slot_of places n ≡ Some s → (loan : Loan) × IsLentOn loan (word_at d.words s) × (loan.number ≡ n)

-- the desk is in a state of the one-thread run, its words are tied to its rows, and it is of this code and limit
pub record IsBook (code : Code) (limit : ℕ) (d : Desk) (places : Numbered) : Type 0 where
  pub desk : IsDesk d
  pub tied : IsTied d places
  pub code_is : d.code ≡ code
  pub limit_is : d.limit ≡ limit
