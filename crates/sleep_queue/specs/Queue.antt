-- Offers that wait, in the order in which they came.
use Rattle.std.specs.Prelude.{◌≡◌, ◌≢◌, ℕ, ◌<◌, ◌≤◌, Bool, true, false, Option, Some, None, List, [], ◌∷◌, ◌++◌, zero, suc, length, cond, ◌==◌, slice_index_or, option_to_list, not, nat_lt, ◌||◌}
use Rattle.std.specs.List.{filter}
use Rattle.std.specs.Option.{is_some}
use Rattle.sleep_queue.specs.Linked.{link}
use Rattle.word.specs.declared.offer.Offer.{Offer}
use Rattle.sleep_queue.specs.declared.offer.Node.{Node}
use Rattle.sleep_queue.specs.Stored.{AreStored, offer_of}
use Rattle.word.specs.Values.{Item}

-- indices, of which some are taken; each taken index has a group and a stamp
pub record Places : Type 0 where
  pub taken : ℕ → Bool
  pub group : ℕ → ℕ
  pub stamp : ℕ → ℕ

-- no index is between x and y, in the order of stamps, which starts over after the last
pub record IsBeside (u : Places) (x y : ℕ) : Type 0 where
  pub group : u.group y ≡ u.group x
  pub rises : (z : ℕ) → u.taken z ≡ true → u.group z ≡ u.group x → u.stamp x < u.stamp y → u.stamp x < u.stamp z → u.stamp y ≤ u.stamp z
  pub first : (z : ℕ) → u.taken z ≡ true → u.group z ≡ u.group x → u.stamp y ≤ u.stamp x → u.stamp y ≤ u.stamp z
  pub last : (z : ℕ) → u.taken z ≡ true → u.group z ≡ u.group x → u.stamp y ≤ u.stamp x → u.stamp z ≤ u.stamp x

-- each group is a ring, in the order of the stamps
pub record IsRing (u : Places) (f : ℕ → ℕ) : Type 0 where
  pub alone : (x : ℕ) → u.taken x ≡ false → f x ≡ x
  pub inside : (x : ℕ) → u.taken x ≡ true → u.taken (f x) ≡ true
  pub beside : (x : ℕ) → u.taken x ≡ true → IsBeside u x (f x)

-- no two indices have one stamp, and each stamp is below the next one
pub record IsStamped (u : Places) (next : ℕ) : Type 0 where
  pub apart : (x y : ℕ) → u.taken x ≡ true → u.taken y ≡ true → u.stamp x ≡ u.stamp y → x ≡ y
  pub below : (x : ℕ) → u.taken x ≡ true → u.stamp x < next

-- the first index of a group
pub record IsFirst (u : Places) (r k : ℕ) : Type 0 where
  pub taken : u.taken k ≡ true
  pub group : u.group k ≡ r
  pub least : (z : ℕ) → u.taken z ≡ true → u.group z ≡ r → u.stamp k ≤ u.stamp z

abbrev pub IsHeadOf : Places → ℕ → Option ℕ → Type 0
IsHeadOf u r None = (z : ℕ) → u.taken z ≡ true → u.group z ≡ r → ⊥
IsHeadOf u r (Some k) = IsFirst u r k

-- the head of a group when index x, which y follows, has left
abbrev pub head_without : Option ℕ → ℕ → ℕ → Option ℕ
head_without None x y = None
head_without (Some k) x y = cond (k == x) (cond (y == x) None (Some y)) (Some k)

-- and when x has entered
abbrev pub head_with : Option ℕ → ℕ → Option ℕ
head_with None x = Some x
head_with (Some k) x = Some k

-- w is u without index x
pub record Left (u w : Places) (x : ℕ) : Type 0 where
  pub gone : w.taken x ≡ false
  pub fewer : (y : ℕ) → w.taken y ≡ true → (u.taken y ≡ true) × (y ≢ x)
  pub others : (y : ℕ) → u.taken y ≡ true → y ≢ x → w.taken y ≡ true
  pub group : (y : ℕ) → y ≢ x → w.group y ≡ u.group y
  pub stamp : (y : ℕ) → y ≢ x → w.stamp y ≡ u.stamp y

-- w is u with index x of this group and stamp
pub record Entered (u w : Places) (x r s : ℕ) : Type 0 where
  pub was : u.taken x ≡ false
  pub taken : w.taken x ≡ true
  pub its_group : w.group x ≡ r
  pub its_stamp : w.stamp x ≡ s
  pub others : (y : ℕ) → y ≢ x → w.taken y ≡ u.taken y
  pub group : (y : ℕ) → y ≢ x → w.group y ≡ u.group y
  pub stamp : (y : ℕ) → y ≢ x → w.stamp y ≡ u.stamp y

-- an offer that waits in a row, and the key under which it is kept
pub record Waiting : Type 0 where
  pub key : ℕ
  pub row : ℕ
  pub offer : Offer

-- how many rows there are, and what waits, in the order in which it came
pub record QueuesValue : Type 0 where
  pub rows : ℕ
  pub waiting : List Waiting

abbrev pub waiting_at : ℕ → Node → Waiting
waiting_at key node = record { key = key; row = node.row; offer = offer_of node.offer }

-- what came at this time; the first of these slots has key j
abbrev pub at_stamp : ℕ → ℕ → List (Option Node) → Option Waiting
at_stamp s j [] = None
at_stamp s j (None ∷ xs) = at_stamp s (suc j) xs
at_stamp s j (Some n ∷ xs) = cond (n.stamp == s) (Some (waiting_at j n)) (at_stamp s (suc j) xs)

-- what came before this time, in order
abbrev pub in_order : List (Option Node) → ℕ → List Waiting
in_order xs zero = []
in_order xs (suc n) = in_order xs n ++ option_to_list (at_stamp n 0 xs)

abbrev pub number_of : (Node → ℕ) → Option Node → ℕ
number_of f None = 0
number_of f (Some n) = f n

-- the slots, seen by rows or by goroutines
abbrev pub places_by : (Node → ℕ) → List (Option Node) → Places
places_by f xs = record {
  taken = λ k. is_some (slice_index_or xs k None);
  group = λ k. number_of f (slice_index_or xs k None);
  stamp = λ k. number_of (λ (n : Node). n.stamp) (slice_index_or xs k None);
}

-- the offers of a row, in order
abbrev pub is_in_row : ℕ → Waiting → Bool
is_in_row r w = w.row == r

abbrev pub row_of : ℕ → List Waiting → List Waiting
row_of r ws = filter (is_in_row r) ws

-- the offers of two rows
abbrev pub is_in_either : ℕ → ℕ → Waiting → Bool
is_in_either r q w = (w.row == r) || (w.row == q)

-- all offers but that of a key, and but those of a goroutine
abbrev pub is_other : ℕ → Waiting → Bool
is_other x w = not (w.key == x)

abbrev pub is_at : ℕ → Waiting → Bool
is_at x w = w.key == x

abbrev pub is_not_of : ℕ → Waiting → Bool
is_not_of number w = not (w.offer.number == number)

abbrev pub is_of : ℕ → Waiting → Bool
is_of number w = w.offer.number == number

abbrev pub first : List Waiting → Option Waiting
first [] = None
first (w ∷ ws) = Some w

-- the slots of a slab are in rings by a group, in order, and each group's first index is known
pub record IsSide (f : Node → ℕ) (xs : List (Option Node)) (next : List ℕ) (head : ℕ → Option ℕ) : Type 0 where
  pub ring : IsRing (places_by f xs) (link next)
  pub heads : (q : ℕ) → IsHeadOf (places_by f xs) q (head q)
  pub covered : (k : ℕ) → is_some (slice_index_or xs k None) ≡ true → k < length next

abbrev pub AreApart : List (Option Node) → Type 0
AreApart xs = (i j : ℕ) (a b : Node) → slice_index_or xs i None ≡ Some a → slice_index_or xs j None ≡ Some b → a.stamp ≡ b.stamp → i ≡ j

abbrev pub AreBefore : ℕ → List (Option Node) → Type 0
AreBefore t xs = (i : ℕ) (a : Node) → slice_index_or xs i None ≡ Some a → a.stamp < t

abbrev pub by_row : Node → ℕ
by_row n = n.row

abbrev pub by_number : Node → ℕ
by_number n = n.offer.number

abbrev pub head_at : List (Option ℕ) → ℕ → Option ℕ
head_at heads q = slice_index_or heads q None

-- what is at an index, if anything
abbrev pub node_at : List (Option Node) → Option ℕ → Option Node
node_at xs None = None
node_at xs (Some k) = slice_index_or xs k None

-- the one of two that entered first
abbrev pub sooner : Option Node → Option Node → Option Node
sooner None b = b
sooner (Some a) None = Some a
sooner (Some a) (Some b) = cond (nat_lt b.stamp a.stamp) (Some b) (Some a)

-- the slots, the items, the time, and both rings
pub record IsQueues (xs : List (Option Node)) (items : List (Option Item)) (t : ℕ) (rows : List ℕ) (heads : List (Option ℕ)) (goroutines : List ℕ) (owners : List (Option ℕ)) : Type 0 where
  pub apart : AreApart xs
  pub before : AreBefore t xs
  pub stored : AreStored xs items
  pub row : IsSide by_row xs rows (head_at heads)
  pub own : IsSide by_number xs goroutines (head_at owners)

-- all but the one that was first
abbrev pub without_first : Option Waiting → List Waiting → List Waiting
without_first None ws = ws
without_first (Some w) ws = filter (is_other w.key) ws
