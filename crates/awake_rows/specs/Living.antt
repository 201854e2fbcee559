-- Goroutines that are awake or asleep, each in a slot of its own.
use Rattle.std.specs.Prelude.{◌≡◌, ◌≢◌, ℕ, zero, suc, ◌<◌, ◌≤◌, Bool, true, false, length, List, [], ◌∷◌, ◌++◌, Option, Some, None, IfSome, IsSome, slice_index_or, slice_set}
use Rattle.bytecode.specs.Code.{Code}
use Rattle.logical_clock.specs.declared.key.Key.{Key}
use Rattle.logical_clock.specs.Order.{is_before, sooner}
use Rattle.slot_index.specs.Numbers.{IsInverse, Numbered, number_at, slot_of}
use Rattle.turn_rule.specs.declared.Row.{Row}
use Rattle.turn_rule.specs.Schedule.{floor_above}
use Rattle.awake_rows.specs.declared.goroutine.Goroutine.{Goroutine}
use Rattle.awake_rows.specs.declared.goroutine.Goroutine.TheVariants.{Awake, Asleep}
use Rattle.awake_rows.specs.declared.orders.Orders.{Orders}
use Rattle.awake_rows.specs.declared.slot.Order.{Order}
use Rattle.awake_rows.specs.declared.slot.Order.TheVariants as order
use Rattle.awake_rows.specs.Slots.{Beds, IsWorked, KeepsFloor, Rows, State, free_clock, free_row, lent_clock, waiting_clock}

abbrev pub Items : Type 0
Items = List (Option Goroutine)

-- the row of one that is awake
abbrev pub awake_of : Option Goroutine → Option (Row State)
awake_of None = None
awake_of (Some (Awake row)) = Some row
awake_of (Some (Asleep state)) = None

-- the state of one that is asleep
abbrev pub asleep_of : Option Goroutine → Option State
asleep_of None = None
asleep_of (Some (Awake row)) = None
asleep_of (Some (Asleep state)) = Some state

-- with its row changed, if it is awake
abbrev pub with_row : (Row State → Row State) → Option Goroutine → Option Goroutine
with_row change None = None
with_row change (Some (Awake row)) = Some (Awake (change row))
with_row change (Some (Asleep state)) = Some (Asleep state)

-- the goroutine after it falls asleep, if it is awake
abbrev pub lain_down : Option Goroutine → Option Goroutine
lain_down None = None
lain_down (Some (Awake row)) = Some (Asleep row.state)
lain_down (Some (Asleep state)) = Some (Asleep state)

-- the goroutine after it is woken in a changed state, if it is asleep; it may be lent
abbrev pub woken_up : (State → State) → Option Goroutine → Option Goroutine
woken_up change None = None
woken_up change (Some (Awake row)) = Some (Awake row)
woken_up change (Some (Asleep state)) = Some (Awake (free_row (change state)))

-- the row in a slot
abbrev pub row_in : Items → ℕ → Option (Row State)
row_in items s = awake_of (slice_index_or items s None)

-- the goroutine in a slot, which may be lent, has made local steps in that slot
abbrev pub WorksAt : Code → ℕ → ℕ → Items → ℕ → Option Bool → Items → Type 0
WorksAt code limit quantum old s answer new =
    (base : State) × (row : Row State) × (row_in old s ≡ Some (free_row base)) × IsWorked code limit quantum base answer row × (new ≡ slice_set old s (Some (Awake row)))

-- the goroutine in a slot, if it is given
abbrev pub item_in : Items → Option ℕ → Option Goroutine
item_in items None = None
item_in items (Some s) = slice_index_or items s None

-- give n, give (n + 1) .., `count` of them
abbrev pub numbered : {A : Type 0} → (ℕ → A) → ℕ → ℕ → List A
numbered give n zero = []
numbered give n (suc count) = give n ∷ numbered give (suc n) count

-- the row of goroutine n is at index n of `rows` if it is awake, and its state at index n of `beds` if it is asleep
pub record Living : Type 0 where
  pub rows : Rows
  pub beds : Beds

-- the `rows` and `beds` of the numbers below `count`: each number has what is in its slot
abbrev pub living_in : ℕ → Numbered → Items → Living
living_in count slots items = record {
  rows = numbered (λ n. awake_of (item_in items (slot_of slots n))) 0 count;
  beds = numbered (λ n. asleep_of (item_in items (slot_of slots n))) 0 count;
}

-- ---- their orders

-- the key of goroutine n at this clock
abbrev pub key_of : ℕ → Option ℕ → Option Key
key_of n None = None
key_of n (Some clock) = Some (record { clock = clock; number = n })

-- the key of the goroutine of this number, if there is one, at this clock
abbrev pub keyed : Option ℕ → Option ℕ → Option Key
keyed None clock = None
keyed (Some n) clock = key_of n clock

-- `keys` has, for each slot but `late`, the key of the goroutine in it, if that has a clock. Slot `late`, whose row changed last, has no key
pub record AreKeysBut (late : ℕ) (clock : Option (Row State) → Option ℕ) (keys : List (Option Key)) (slots : Numbered) (items : Items) : Type 0 where
  pub room : length items ≤ length keys
  pub absent : slice_index_or keys late None ≡ None
  pub others : (s : ℕ) → s ≢ late → slice_index_or keys s None ≡ keyed (number_at slots s) (clock (row_in items s))

abbrev pub AllKeepFloors : Items → Type 0
AllKeepFloors items = (s : ℕ) → IfSome (row_in items s) KeepsFloor

pub record AreOrders (orders : Orders) (slots : Numbered) (items : Items) : Type 0 where
  pub parked : AreKeysBut orders.late waiting_clock orders.parked slots items
  pub free : AreKeysBut orders.late free_clock orders.free slots items
  pub lent : AreKeysBut orders.late lent_clock orders.lent slots items
  pub floors : AllKeepFloors items

-- each number that has a slot is below `count`, each slot that is taken has a goroutine, so the slot of one that ends is free, and the orders are
-- those of `slots` and `items`
pub record AreLiving (count : ℕ) (slots : Numbered) (items : Items) (orders : Orders) : Type 0 where
  pub inverse : IsInverse slots
  pub below : (n s : ℕ) → slot_of slots n ≡ Some s → n < count
  pub within : (n s : ℕ) → slot_of slots n ≡ Some s → s < length items
  pub taken : (n s : ℕ) → slot_of slots n ≡ Some s → IsSome (slice_index_or items s None)
  pub ordered : AreOrders orders slots items

-- the clock of a goroutine in each of the orders, if it has a key there
pub record Clocks : Type 0 where
  pub parked : Option ℕ
  pub free : Option ℕ
  pub lent : Option ℕ

abbrev pub clocks_of : Option (Row State) → Clocks
clocks_of row = record { parked = waiting_clock row; free = free_clock row; lent = lent_clock row }

-- the clocks of a goroutine that has a key in this order alone
abbrev pub clocks_in : Order → ℕ → Clocks
clocks_in order.Parked clock = record { parked = Some clock; free = None; lent = None }
clocks_in order.Free clock = record { parked = None; free = Some clock; lent = None }
clocks_in order.Lent clock = record { parked = None; free = None; lent = Some clock }

-- slot s has this key, if one is given
abbrev pub with_key : List (Option Key) → ℕ → Option Key → List (Option Key)
with_key keys s None = keys
with_key keys s (Some key) = slice_set keys s (Some key)

-- slot s has the keys of this number, if there is one, at these clocks
abbrev pub noted : Orders → ℕ → Option ℕ → Clocks → Orders
noted orders s number clocks = record orders {
  parked = with_key orders.parked s (keyed number clocks.parked);
  free = with_key orders.free s (keyed number clocks.free);
  lent = with_key orders.lent s (keyed number clocks.lent);
}

-- slot s is late, and has no key
abbrev pub taken_out : Orders → ℕ → Orders
taken_out orders s = record {
  parked = slice_set orders.parked s None;
  free = slice_set orders.free s None;
  lent = slice_set orders.lent s None;
  late = s;
}

-- the slot that was late gets its key, and slot s is late
abbrev pub now_late : Orders → Numbered → Items → ℕ → Orders
now_late orders slots items s = taken_out (noted orders orders.late (number_at slots orders.late) (clocks_of (row_in items orders.late))) s

-- with one more slot, without keys
abbrev pub with_place : Orders → Orders
with_place orders = record orders {
  parked = orders.parked ++ None ∷ [];
  free = orders.free ++ None ∷ [];
  lent = orders.lent ++ None ∷ [];
}

-- the old list, with more indexes at which there is nothing
pub record Grows {A : Type 0} (old new : List (Option A)) : Type 0 where
  pub size : length old ≤ length new
  pub same : (s : ℕ) → slice_index_or new s None ≡ slice_index_or old s None

pub record HaveGrown (old new : Orders) : Type 0 where
  pub parked : Grows old.parked new.parked
  pub free : Grows old.free new.free
  pub lent : Grows old.lent new.lent
  pub late : new.late ≡ old.late

-- the orders have keys for at least `count` slots
pub record HaveRoom (orders : Orders) (count : ℕ) : Type 0 where
  pub parked : count ≤ length orders.parked
  pub free : count ≤ length orders.free
  pub lent : count ≤ length orders.lent

-- k is the key of a goroutine in another slot than `late`
abbrev pub IsOther : ℕ → (Option (Row State) → Option ℕ) → Numbered → Items → Key → Type 0
IsOther late clock slots items k = (s : ℕ) × (s ≢ late) × (number_at slots s ≡ Some k.number) × (clock (row_in items s) ≡ Some k.clock)

-- k is the key of a slot
abbrev pub IsKeyOf : List (Option Key) → Key → Type 0
IsKeyOf keys k = (s : ℕ) × (slice_index_or keys s None ≡ Some k)

-- the least of the keys that count, if any does
abbrev pub IsFirst : (Key → Type 0) → Option Key → Type 0
IsFirst Counts None = (k : Key) → Counts k → ⊥
IsFirst Counts (Some k) = Counts k × ((j : Key) → Counts j → is_before j k ≡ false)

-- the key is before another one's, or not after its own goroutine's
abbrev pub IsClear : Key → Key → Type 0
IsClear k j = (j.number ≡ k.number → is_before j k ≡ false) × (j.number ≢ k.number → is_before k j ≡ true)

-- the key is not before that of goroutine n, unless n is its own
abbrev pub IsNotClear : Key → Option Key → ℕ → Type 0
IsNotClear k None n = ⊥
IsNotClear k (Some j) n = (j.number ≡ n) × (n ≢ k.number → is_before k j ≡ false)

-- k is below the floor of each other goroutine
abbrev pub AllAbove : Numbered → Items → Key → Type 0
AllAbove slots items k = (s n : ℕ) → number_at slots s ≡ Some n → floor_above k n (row_in items s) ≡ true

-- k is not below the floor of goroutine n, which is another one
abbrev pub IsNotAbove : Numbered → Items → Key → ℕ → Type 0
IsNotAbove slots items k n = (s : ℕ) × (number_at slots s ≡ Some n) × (floor_above k n (row_in items s) ≡ false)

-- the first of two keys, if there are any
abbrev pub soonest : Option Key → Option Key → Option Key
soonest None other = other
soonest (Some k) other = sooner k other
