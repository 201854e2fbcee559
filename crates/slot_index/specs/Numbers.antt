-- Which numbers have slots, and which slots they have.
use Rattle.std.specs.Prelude.{◌≡◌, ◌≢◌, ℕ, List, Option, Some, None, count_by, slice_index_or}
use Rattle.std.specs.Option.{is_some}
use Rattle.slot_index.specs.Keys.{KeysValue, owned}

-- `slots` has the slot of each number that has one; `numbers` has, for each slot, the number that has it, if there is one; `next` is the slot that
-- is given next; `room` is how many slots fit without more memory
pub record Numbered : Type 0 where
  pub slots : KeysValue
  pub numbers : List (Option ℕ)
  pub next : ℕ
  pub room : ℕ

-- the slot of a number, if it has one
abbrev pub slot_of : Numbered → ℕ → Option ℕ
slot_of x n = owned x.slots n

-- the number that has a slot, if there is one
abbrev pub number_at : Numbered → ℕ → Option ℕ
number_at x s = slice_index_or x.numbers s None

-- the number of slots that are taken
abbrev pub living : Numbered → ℕ
living x = count_by is_some x.numbers

-- `slot_of` and `number_at` are inverse: no two numbers share a slot, and no number has two
pub record IsInverse (x : Numbered) : Type 0 where
  pub number : (n s : ℕ) → slot_of x n ≡ Some s → number_at x s ≡ Some n
  pub slot : (n s : ℕ) → number_at x s ≡ Some n → slot_of x n ≡ Some s

-- slot s, which was free, is given to number n
pub record Gives (old : Numbered) (n s : ℕ) (new : Numbered) : Type 0 where
  pub free : number_at old s ≡ None
  pub slot : slot_of new n ≡ Some s
  pub slots : (m : ℕ) → m ≢ n → slot_of new m ≡ slot_of old m
  pub number : number_at new s ≡ Some n
  pub numbers : (t : ℕ) → t ≢ s → number_at new t ≡ number_at old t

-- number n has no slot any more, and the slot that it had is free
pub record Frees (old : Numbered) (n : ℕ) (new : Numbered) : Type 0 where
  pub slot : slot_of new n ≡ None
  pub slots : (m : ℕ) → m ≢ n → slot_of new m ≡ slot_of old m
  pub number : (s : ℕ) → slot_of old n ≡ Some s → number_at new s ≡ None
  pub numbers : (t : ℕ) → slot_of old n ≢ Some t → number_at new t ≡ number_at old t
