-- The least key, of orders that have all goroutines but the late one.
use Rattle.std.proofs.Common.{◌≡◌, ◌≢◌, ◌∙◌, ℕ, Bool, true, false, cond, ◌⊎◌, List, Option, Some, None, refl, ap, sym, subst, arith, inl, inr}
use Rattle.std.specs.Prelude.{IfSome, slice_index_or}
use Rattle.std.proofs.lemmas.Bool.{cases_eq}
use Rattle.std.proofs.lemmas.Bool.Decides.{nat_tests}
use Rattle.std.specs.Option.{is_some}
use Rattle.std.specs.Prelude.{◌||◌}
use Rattle.logical_clock.specs.declared.key.Key.{Key}
use Rattle.logical_clock.specs.Order.{is_before, keys, least}
use Rattle.logical_clock.proofs.Keys.{IsNext, key, next_is, not_before_trans}
use Rattle.turn_rule.specs.declared.Lease.{Lease as Loan}
use Rattle.turn_rule.specs.declared.Row.{Row}
use Rattle.slot_index.specs.Numbers.{Numbered, number_at, slot_of}
use Rattle.awake_rows.specs.Slots.{KeepsFloor, Rows, State, clock_among, floor_clock, free_clock, lent_clock, waiting_clock}
use Rattle.awake_rows.specs.Living.{AllKeepFloors, AreKeysBut, AreLiving, AreOrders, IsFirst, IsKeyOf, IsOther, Items, awake_of, item_in, key_of, keyed, living_in, row_in, soonest}
use Rattle.awake_rows.specs.declared.orders.Orders.{Orders}
use Rattle.awake_rows.specs.declared.turns.Among.{Among}
use Rattle.awake_rows.proofs.Kept.{nobody_counts, row_of_number}

not_before_self : (a : Key) → is_before a a ≡ false
not_before_self a = grind (arith, nat_tests)

before_asym : (a b : Key) → is_before a b ≡ true → is_before b a ≡ false
before_asym a b h = grind (arith, nat_tests)

-- ---- the first of some keys

module _ (P Q : Key → Type 0) where
  abbrev Both : Key → Type 0
  Both k = P k ⊎ Q k

  first_of : (j k : Key) (b : Bool) → is_before k j ≡ b → IsFirst P (Some j) → IsFirst Q (Some k) → IsFirst Both (Some (cond b k j))
  first_of j k true e x y = (inr y.0, λ i h. elim h [ inl p ↦ not_before_trans k j i (before_asym k j e) (x.1 i p) | inr q ↦ y.1 i q ])
  first_of j k false e x y = (inl x.0, λ i h. elim h [ inl p ↦ x.1 i p | inr q ↦ not_before_trans j k i e (y.1 i q) ])

  -- the first of both is the sooner of the first of each
  first_joined : (a b : Option Key) → IsFirst P a → IsFirst Q b → IsFirst Both (soonest a b)
  first_joined None None x y = λ k h. elim h [ inl p ↦ x k p | inr q ↦ y k q ]
  first_joined None (Some k) x y = (inr y.0, λ i h. elim h [ inl p ↦ absurd (x i p) | inr q ↦ y.1 i q ])
  first_joined (Some j) None x y = (inl x.0, λ i h. elim h [ inl p ↦ x.1 i p | inr q ↦ absurd (y i q) ])
  first_joined (Some j) (Some k) x y = first_of j k (is_before k j) refl x y

  first_same : (o : Option Key) → ((k : Key) → P k → Q k) → ((k : Key) → Q k → P k) → IsFirst P o → IsFirst Q o
  first_same None to back h = λ k q. h k (back k q)
  first_same (Some k) to back h = (to k h.0, λ j q. h.1 j (back j q))

pub first_alone : (o : Option Key) → IsFirst (λ k. o ≡ Some k) o
first_alone None = λ k e. cc
first_alone (Some j) = (refl, λ k e. let same : j ≡ k = cc in ap (λ (x : Key). is_before x j) (sym same) ∙ not_before_self j)

-- ---- the others

pub key_of_some : (n : ℕ) (o : Option ℕ) (k : Key) → key_of n o ≡ Some k → (o ≡ Some k.clock) × (n ≡ k.number)
key_of_some n None k e = absurd (cc)
key_of_some n (Some c) k e =
    let same : record { clock = c; number = n } ≡ k = cc in
    (ap (λ (j : Key). Some j.clock) same, ap (λ (j : Key). j.number) same)

pub keyed_some : (number o : Option ℕ) (k : Key) → keyed number o ≡ Some k → (number ≡ Some k.number) × (o ≡ Some k.clock)
keyed_some None o k e = absurd (cc)
keyed_some (Some n) o k e =
    let found = key_of_some n o k e in
    (ap Some found.1, found.0)

key_is : (number o : Option ℕ) (k : Key) → number ≡ Some k.number → o ≡ Some k.clock → keyed number o ≡ Some k
key_is number o k n c = ap (λ (x : Option ℕ). keyed x o) n ∙ ap (key_of k.number) c

-- an order has the keys of all others
first_other : (late : ℕ) (clock : Option (Row State) → Option ℕ) (ks : List (Option Key)) (slots : Numbered) (items : Items) (o : Option Key) → AreKeysBut late clock ks slots items → IsFirst (IsKeyOf ks) o → IsFirst (IsOther late clock slots items) o
first_other late clock ks slots items o keys first = first_same (IsKeyOf ks) (IsOther late clock slots items) o
    (λ k h.
    let apart : h.0 ≢ late = λ e. let no : None ≡ Some k = sym keys.absent ∙ ap (λ (s : ℕ). slice_index_or ks s None) (sym e) ∙ h.1 in cc in
    let found = keyed_some (number_at slots h.0) (clock (row_in items h.0)) k (sym (keys.others h.0 apart) ∙ h.1) in
    (h.0, apart, found.0, found.1))
    (λ k h. (h.0, keys.others h.0 h.1 ∙ key_is (number_at slots h.0) (clock (row_in items h.0)) k h.2 h.3)) first

-- the floor of one that is not lent is its clock
floor_or : (floor clock : ℕ) (lease : Option (Loan State)) (parked : Bool) → (lease ≡ None → floor ≡ clock) → (parked ≡ true → lease ≡ None) → (c : ℕ) → Some floor ≡ Some c
    → ((cond parked (Some clock) None ≡ Some c) ⊎ (cond (is_some lease || parked) None (Some clock) ≡ Some c)) ⊎ (cond (is_some lease) (Some floor) None ≡ Some c)
floor_or floor clock None true same apart c e = inl (inl (ap Some (sym (same refl)) ∙ e))
floor_or floor clock None false same apart c e = inl (inr (ap Some (sym (same refl)) ∙ e))
floor_or floor clock (Some l) parked same apart c e = inr e

or_floor : (floor clock : ℕ) (lease : Option (Loan State)) (parked : Bool) → (lease ≡ None → floor ≡ clock) → (parked ≡ true → lease ≡ None) → (c : ℕ)
    → ((cond parked (Some clock) None ≡ Some c) ⊎ (cond (is_some lease || parked) None (Some clock) ≡ Some c)) ⊎ (cond (is_some lease) (Some floor) None ≡ Some c) → Some floor ≡ Some c
or_floor floor clock None true same apart c (inl (inl e)) = ap Some (same refl) ∙ e
or_floor floor clock None true same apart c (inl (inr e)) = absurd (cc)
or_floor floor clock None true same apart c (inr e) = absurd (cc)
or_floor floor clock None false same apart c (inl (inl e)) = absurd (cc)
or_floor floor clock None false same apart c (inl (inr e)) = ap Some (same refl) ∙ e
or_floor floor clock None false same apart c (inr e) = absurd (cc)
or_floor floor clock (Some l) true same apart c h = let lent = apart refl in absurd (cc)
or_floor floor clock (Some l) false same apart c (inl (inl e)) = absurd (cc)
or_floor floor clock (Some l) false same apart c (inl (inr e)) = absurd (cc)
or_floor floor clock (Some l) false same apart c (inr e) = e

pub floor_among : (o : Option (Row State)) (c : ℕ) → IfSome o KeepsFloor → floor_clock o ≡ Some c → ((waiting_clock o ≡ Some c) ⊎ (free_clock o ≡ Some c)) ⊎ (lent_clock o ≡ Some c)
floor_among None c k e = absurd (cc)
floor_among (Some row) c k e = floor_or row.floor row.state.clock row.lease row.parked k.floor k.unlent c e

pub among_floor : (o : Option (Row State)) (c : ℕ) → IfSome o KeepsFloor → ((waiting_clock o ≡ Some c) ⊎ (free_clock o ≡ Some c)) ⊎ (lent_clock o ≡ Some c) → floor_clock o ≡ Some c
among_floor None c k (inl (inl e)) = e
among_floor None c k (inl (inr e)) = e
among_floor None c k (inr e) = e
among_floor (Some row) c k h = or_floor row.floor row.state.clock row.lease row.parked k.floor k.unlent c h

-- of all that are awake, but for the late one
module _ (late : ℕ) (slots : Numbered) (items : Items) (floors : AllKeepFloors items) where
  abbrev OfEither : Key → Type 0
  OfEither k = IsOther late waiting_clock slots items k ⊎ IsOther late free_clock slots items k

  abbrev OfAny : Key → Type 0
  OfAny k = OfEither k ⊎ IsOther late lent_clock slots items k

  any_floor : (k : Key) → OfAny k → IsOther late floor_clock slots items k
  any_floor k (inl (inl h)) = (h.0, h.1, h.2, among_floor (row_in items h.0) k.clock (floors h.0) (inl (inl h.3)))
  any_floor k (inl (inr h)) = (h.0, h.1, h.2, among_floor (row_in items h.0) k.clock (floors h.0) (inl (inr h.3)))
  any_floor k (inr h) = (h.0, h.1, h.2, among_floor (row_in items h.0) k.clock (floors h.0) (inr h.3))

  floor_any : (k : Key) → IsOther late floor_clock slots items k → OfAny k
  floor_any k h = elim (floor_among (row_in items h.0) k.clock (floors h.0) h.3) [
    | inl e ↦ elim e [ inl w ↦ inl (inl (h.0, h.1, h.2, w)) | inr f ↦ inl (inr (h.0, h.1, h.2, f)) ]
    | inr l ↦ inr (h.0, h.1, h.2, l)
  ]

  first_floor : (w f l : Option Key) → IsFirst (IsOther late waiting_clock slots items) w → IsFirst (IsOther late free_clock slots items) f → IsFirst (IsOther late lent_clock slots items) l → IsFirst (IsOther late floor_clock slots items) (soonest (soonest w f) l)
  first_floor w f l x y z =
      let either : IsFirst OfEither (soonest w f) = first_joined (IsOther late waiting_clock slots items) (IsOther late free_clock slots items) w f x y in
      first_same OfAny (IsOther late floor_clock slots items) (soonest (soonest w f) l) any_floor floor_any (first_joined OfEither (IsOther late lent_clock slots items) (soonest w f) l either z)

module _ (orders : Orders) (slots : Numbered) (items : Items) (o : AreOrders orders slots items) where
  pub others_parked : (r : Option Key) → IsFirst (IsKeyOf orders.parked) r → IsFirst (IsOther orders.late waiting_clock slots items) r
  others_parked r h = first_other orders.late waiting_clock orders.parked slots items r o.parked h

  pub others_free : (r : Option Key) → IsFirst (IsKeyOf orders.free) r → IsFirst (IsOther orders.late free_clock slots items) r
  others_free r h = first_other orders.late free_clock orders.free slots items r o.free h

  pub others_lent : (r : Option Key) → IsFirst (IsKeyOf orders.lent) r → IsFirst (IsOther orders.late lent_clock slots items) r
  others_lent r h = first_other orders.late lent_clock orders.lent slots items r o.lent h

  pub others_awake : (w f l : Option Key) → IsFirst (IsKeyOf orders.parked) w → IsFirst (IsKeyOf orders.free) f → IsFirst (IsKeyOf orders.lent) l → IsFirst (IsOther orders.late floor_clock slots items) (soonest (soonest w f) l)
  others_awake w f l x y z = first_floor orders.late slots items o.floors w f l (others_parked w x) (others_free f y) (others_lent l z)

-- ---- of all

same_clock : (a b : Key) → is_before a b ≡ false → is_before b a ≡ false → a.clock ≡ b.clock
same_clock a b h k = grind (arith, nat_tests)

same_number : (a b : Key) → is_before a b ≡ false → is_before b a ≡ false → a.number ≡ b.number
same_number a b h k = grind (arith, nat_tests)

same_key : (a b : Key) → is_before a b ≡ false → is_before b a ≡ false → a ≡ b
same_key a b h k =
    let c = same_clock a b h k in
    let n = same_number a b h k in
    let one : a ≡ record { clock = b.clock; number = a.number } = ap (λ (x : ℕ). record { clock = x; number = a.number }) c in
    let two : record { clock = b.clock; number = a.number } ≡ b = ap (λ (x : ℕ). record { clock = b.clock; number = x }) n in
    one ∙ two

same_next : (clock : Option (Row State) → Option ℕ) (rows : Rows) (a b : Option Key) → IsNext clock None rows a → IsNext clock None rows b → a ≡ b
same_next clock rows None None x y = refl
same_next clock rows None (Some k) x y = absurd (x k.number k.clock y.0)
same_next clock rows (Some j) None x y = absurd (y j.number j.clock x.0)
same_next clock rows (Some j) (Some k) x y = ap Some (same_key j k (y.1 j.number j.clock x.0) (x.1 k.number k.clock y.0))

-- a goroutine that lives counts by the row in its slot
module _ (count : ℕ) (slots : Numbered) (items : Items) (orders : Orders) (all : AreLiving count slots items orders) (clock : Option (Row State) → Option ℕ) (none : clock None ≡ None) where
  abbrev rows : Rows
  rows = (living_in count slots items).rows

  pub clock_of_slot : (n s c : ℕ) → number_at slots s ≡ Some n → clock (row_in items s) ≡ Some c → clock (slice_index_or rows n None) ≡ Some c
  clock_of_slot n s c e h =
      let has : slot_of slots n ≡ Some s = all.inverse.slot n s e in
      ap clock (row_of_number count slots items all.below n ∙ ap (λ (o : Option ℕ). awake_of (item_in items o)) has) ∙ h

  pub slot_of_clock : (n c : ℕ) → clock (slice_index_or rows n None) ≡ Some c → (s : ℕ) × (number_at slots s ≡ Some n) × (clock (row_in items s) ≡ Some c)
  slot_of_clock n c h = go (slot_of slots n) refl (sym (ap clock (row_of_number count slots items all.below n)) ∙ h) where
    go : (o : Option ℕ) → slot_of slots n ≡ o → clock (awake_of (item_in items o)) ≡ Some c → (s : ℕ) × (number_at slots s ≡ Some n) × (clock (row_in items s) ≡ Some c)
    go None e k = let no : None ≡ Some c = sym none ∙ k in absurd (cc)
    go (Some s) e k = (s, all.inverse.number n s e, k)

  -- the late one's key
  abbrev IsOwn : Key → Type 0
  IsOwn k = keyed (number_at slots orders.late) (clock (row_in items orders.late)) ≡ Some k

  -- the late one's, or another one's
  abbrev IsAnyones : Key → Type 0
  IsAnyones k = IsOwn k ⊎ IsOther orders.late clock slots items k

  anyones : (k : Key) → IsAnyones k → clock (slice_index_or rows k.number None) ≡ Some k.clock
  anyones k (inl e) =
      let is = keyed_some (number_at slots orders.late) (clock (row_in items orders.late)) k e in
      clock_of_slot k.number orders.late k.clock is.0 is.1
  anyones k (inr h) = clock_of_slot k.number h.0 k.clock h.2 h.3

  pub is_anyones : (i c : ℕ) → clock (slice_index_or rows i None) ≡ Some c → IsAnyones (key c i)
  is_anyones i c e =
      let at = slot_of_clock i c e in
      elim (cases_eq at.0 orders.late) [
        | inl q ↦ inl (ap (λ (j : ℕ). keyed (number_at slots j) (clock (row_in items j))) (sym q) ∙ key_is (number_at slots at.0) (clock (row_in items at.0)) (key c i) at.1 at.2)
        | inr ne ↦ inr (at.0, ne, at.1, at.2)
      ]

  next_of : (o : Option Key) → IsFirst IsAnyones o → IsNext clock None rows o
  next_of None h = λ i c e. h (key c i) (is_anyones i c e)
  next_of (Some k) h = (anyones k h.0, λ i c e. h.1 (key c i) (is_anyones i c e))

  next_joined : (others : Option Key) → IsFirst (IsOther orders.late clock slots items) others → IsNext clock None rows (soonest (keyed (number_at slots orders.late) (clock (row_in items orders.late))) others)
  next_joined others h =
      let own : Option Key = keyed (number_at slots orders.late) (clock (row_in items orders.late)) in
      next_of (soonest own others) (first_joined IsOwn (IsOther orders.late clock slots items) own others (first_alone own) h)

-- the late one's key and the least of the others
pub among_found : (a : Among) (count : ℕ) (slots : Numbered) (items : Items) (orders : Orders) (own others o : Option Key) → AreLiving count slots items orders → own ≡ keyed (number_at slots orders.late) (clock_among a (row_in items orders.late))
    → ((xs : Numbered) (ys : Items) → AreOrders orders xs ys → IsFirst (IsOther orders.late (clock_among a) xs ys) others) → o ≡ soonest own others → o ≡ least (keys (clock_among a) 0 (living_in count slots items).rows)
among_found a count slots items orders own others o all e first is =
    let rows : Rows = (living_in count slots items).rows in
    let next : IsNext (clock_among a) None rows (soonest (keyed (number_at slots orders.late) (clock_among a (row_in items orders.late))) others) = next_joined count slots items orders all (clock_among a) (nobody_counts a) others (first slots items all.ordered) in
    let mine : IsNext (clock_among a) None rows o = subst (λ (x : Option Key). IsNext (clock_among a) None rows x) (sym (is ∙ ap (λ (x : Option Key). soonest x others) e)) next in
    same_next (clock_among a) rows o (least (keys (clock_among a) 0 rows)) mine (next_is (clock_among a) None (nobody_counts a) rows)
