-- Whose turn it is, by the least floor.
use Rattle.std.proofs.Common.{◌≡◌, ◌≢◌, ◌∙◌, ℕ, zero, suc, ◌+◌, Bool, true, false, ◌&&◌, ◌||◌, [], ◌∷◌, Option, Some, None, refl, ap, sym, subst, arith, inl, inr}
use Rattle.std.specs.Prelude.{IfNone, IfSome, MatchOption, slice_index_or, ◌==◌}
use Rattle.std.proofs.lemmas.Bool.{cases_eq}
use Rattle.std.proofs.lemmas.Bool.Decides.{nat_tests}
use Rattle.logical_clock.specs.declared.key.Key.{Key}
use Rattle.logical_clock.specs.Order.{is_before, keys, least}
use Rattle.logical_clock.proofs.Keys.{IsNext, next_is, key, not_before_trans, before_or_not}
use Rattle.turn_rule.specs.declared.Row.{Row}
use Rattle.turn_rule.specs.Schedule.{floor_above, has_turn}
use Rattle.slot_index.specs.Numbers.{Numbered, number_at}
use Rattle.awake_rows.specs.Slots.{IsAwake, IsBefore, IsNobodyAwake, Rows, State, floor_clock, free_clock, lent_clock, waiting_clock}
use Rattle.awake_rows.specs.Living.{AllAbove, AreLiving, IsClear, IsFirst, IsNotAbove, IsNotClear, IsOther, Items, keyed, living_in, row_in}
use Rattle.awake_rows.specs.declared.orders.Orders.{Orders}
use Rattle.awake_rows.proofs.Least.{among_floor, clock_of_slot, first_alone, floor_among, is_anyones, keyed_some, slot_of_clock}

-- ---- the goroutine that has the turn

turn_all : (k : Key) (rows : Rows) (from : ℕ) → ((i : ℕ) → floor_above k (from + i) (slice_index_or rows i None) ≡ true) → has_turn k from rows ≡ true
turn_all k [] from h = refl
turn_all k (row ∷ rows) from h =
    let first : floor_above k from row ≡ true = ap (λ n. floor_above k n row) (omega arith) ∙ h 0 in
    let rest : has_turn k (suc from) rows ≡ true = turn_all k rows (suc from) (λ i. ap (λ n. floor_above k n (slice_index_or rows i None)) (omega arith) ∙ h (suc i)) in
    ap (λ b. b && has_turn k (suc from) rows) first ∙ rest

above_of : (k : Key) (n : ℕ) (o : Option (Row State)) → ((c : ℕ) → floor_clock o ≡ Some c → ((n == k.number) || is_before k (key c n)) ≡ true) → floor_above k n o ≡ true
above_of k n None h = refl
above_of k n (Some row) h = h row.floor refl

turn_if : (k : Key) (rows : Rows) → ((n c : ℕ) → floor_clock (slice_index_or rows n None) ≡ Some c → ((n == k.number) || is_before k (key c n)) ≡ true) → has_turn k 0 rows ≡ true
turn_if k rows h = turn_all k rows 0 (λ i. ap (λ n. floor_above k n (slice_index_or rows i None)) (omega arith) ∙ above_of k i (slice_index_or rows i None) (h i))

or_before : (k : Key) (n c : ℕ) → (n ≢ k.number → is_before k (key c n) ≡ true) → ((n == k.number) || is_before k (key c n)) ≡ true
or_before k n c h = elim (cases_eq n k.number) [
  | inl e ↦ grind (arith, nat_tests)
  | inr ne ↦ let b = h ne in grind (arith, nat_tests)
]

before_not : (a b c : Key) → is_before a b ≡ true → is_before c b ≡ false → is_before a c ≡ true
before_not a b c h k = grind (arith, nat_tests)

no_turn : (k : Key) (rows : Rows) (from i : ℕ) → floor_above k (from + i) (slice_index_or rows i None) ≡ false → has_turn k from rows ≡ false
no_turn k [] from i h = absurd (cc)
no_turn k (row ∷ rows) from zero h = ap (λ b. b && has_turn k (suc from) rows) (ap (λ n. floor_above k n row) (omega arith) ∙ h)
no_turn k (row ∷ rows) from (suc i) h =
    let rest : has_turn k (suc from) rows ≡ false = no_turn k rows (suc from) i (ap (λ n. floor_above k n (slice_index_or rows i None)) (omega arith) ∙ h) in
    ap (λ b. floor_above k from row && b) rest ∙ and_false (floor_above k from row)
  where
    and_false : (b : Bool) → (b && false) ≡ false
    and_false true = refl
    and_false false = refl

floor_row : (o : Option (Row State)) (c : ℕ) → floor_clock o ≡ Some c → (row : Row State) × (o ≡ Some row) × (row.floor ≡ c)
floor_row None c e = absurd (cc)
floor_row (Some row) c e = (row, refl, cc)

or_false : (a b : Bool) → (a || b) ≡ false → (a ≡ false) × (b ≡ false)
or_false true b e = absurd (cc)
or_false false b e = (refl, e)

not_above : (k : Key) (n : ℕ) (o : Option (Row State)) → floor_above k n o ≡ false → (c : ℕ) × (floor_clock o ≡ Some c) × (n ≢ k.number) × (is_before k (key c n) ≡ false)
not_above k n None e = absurd (cc)
not_above k n (Some row) e =
    let both = or_false (n == k.number) (is_before k (key row.floor n)) e in
    (row.floor, refl, other both.0, both.1)
  where
    other : (n == k.number) ≡ false → n ≢ k.number
    other h = grind (arith, nat_tests)

above_clock : (k : Key) (n : ℕ) (o : Option (Row State)) (c : ℕ) → floor_clock o ≡ Some c → floor_above k n o ≡ true → ((n == k.number) || is_before k (key c n)) ≡ true
above_clock k n None c e h = absurd (cc)
above_clock k n (Some row) c e h = let same : row.floor ≡ c = cc in ap (λ (x : ℕ). (n == k.number) || is_before k (key x n)) (sym same) ∙ h

-- ---- by the least floor

module _ (rows : Rows) where
  floor_is : (o : Option Key) → o ≡ least (keys floor_clock 0 rows) → IsNext floor_clock None rows o
  floor_is o e = rw (← e) at (next_is floor_clock None refl rows)

  pub nobody : None ≡ least (keys floor_clock 0 rows) → IsNobodyAwake rows
  nobody h n = go (slice_index_or rows n None) (floor_is None h n) where
    go : (o : Option (Row State)) → ((c : ℕ) → floor_clock o ≡ Some c → ⊥) → o ≡ None
    go None f = refl
    go (Some row) f = absurd (f row.floor refl)

  pub first_is_awake : (f : Key) → (Some f) ≡ least (keys floor_clock 0 rows) → IsAwake rows f.number
  first_is_awake f h =
      let nx : IsNext floor_clock None rows (Some f) = floor_is (Some f) h in
      let there = floor_row (slice_index_or rows f.number None) f.clock nx.0 in
      (there.0, there.1)

-- ---- by the first of each order

-- all others come after the key, and its own goroutine not before it
clear_all : (k : Key) (P : Key → Type 0) (r : Option Key) → IsFirst P r → IfSome r (IsClear k) → (j : Key) → P j → ((j.number == k.number) || is_before k j) ≡ true
clear_all k P None first clear j p = absurd (first j p)
clear_all k P (Some f) first clear j p = or_before k j.number j.clock (λ ne. elim (cases_eq f.number k.number) [
  | inl e ↦ before_or_not j k (not_before_trans k f j (clear.0 e) (first.1 j p)) ne
  | inr nf ↦ before_not k f j (clear.1 nf) (first.1 j p)
])

turn_waits : (rows : Rows) (k f : Key) → floor_clock (slice_index_or rows f.number None) ≡ Some f.clock → f.number ≢ k.number → is_before k f ≡ false → (has_turn k 0 rows ≡ false) × IsBefore rows k f.number
turn_waits rows k f is ne b =
    let there = floor_row (slice_index_or rows f.number None) f.clock is in
    let waits : is_before k (key there.0.floor f.number) ≡ false = ap (λ c. is_before k (key c f.number)) there.2 ∙ b in
    let other : (f.number == k.number) ≡ false = grind (arith, nat_tests) in
    let below : floor_above k f.number (slice_index_or rows f.number None) ≡ false = ap (λ (o : Option (Row State)). floor_above k f.number o) there.1 ∙ ap (λ x. x || is_before k (key there.0.floor f.number)) other ∙ waits in
    (no_turn k rows 0 f.number (ap (λ n. floor_above k n (slice_index_or rows f.number None)) (omega arith) ∙ below), (there.0, there.1, ne, waits))

waits_of : (rows : Rows) (k : Key) (P : Key → Type 0) (r : Option Key) (n : ℕ) → IsFirst P r → ((j : Key) → P j → floor_clock (slice_index_or rows j.number None) ≡ Some j.clock) → IsNotClear k r n → n ≢ k.number → (has_turn k 0 rows ≡ false) × IsBefore rows k n
waits_of rows k P None n first floor h ne = absurd h
waits_of rows k P (Some f) n first floor h ne =
    subst (λ (m : ℕ). (has_turn k 0 rows ≡ false) × IsBefore rows k m) h.0 (turn_waits rows k f (floor f first.0) (λ e. ne (sym h.0 ∙ e)) (h.1 ne))

module _ (count : ℕ) (slots : Numbered) (items : Items) (orders : Orders) (all : AreLiving count slots items orders) (k : Key) where
  abbrev rows : Rows
  rows = (living_in count slots items).rows

  floor_there : (n s c : ℕ) → number_at slots s ≡ Some n → floor_clock (row_in items s) ≡ Some c → floor_clock (slice_index_or rows n None) ≡ Some c
  floor_there = clock_of_slot count slots items orders all floor_clock refl

  pub waits_free : (r : Option Key) (n : ℕ) → IsFirst (IsOther orders.late free_clock slots items) r → IsNotClear k r n → n ≢ k.number → (has_turn k 0 rows ≡ false) × IsBefore rows k n
  waits_free r n first h ne = waits_of rows k (IsOther orders.late free_clock slots items) r n first (λ j p. floor_there j.number p.0 j.clock p.2 (among_floor (row_in items p.0) j.clock (all.ordered.floors p.0) (inl (inr p.3)))) h ne

  pub waits_parked : (r : Option Key) (n : ℕ) → IsFirst (IsOther orders.late waiting_clock slots items) r → IsNotClear k r n → n ≢ k.number → (has_turn k 0 rows ≡ false) × IsBefore rows k n
  waits_parked r n first h ne = waits_of rows k (IsOther orders.late waiting_clock slots items) r n first (λ j p. floor_there j.number p.0 j.clock p.2 (among_floor (row_in items p.0) j.clock (all.ordered.floors p.0) (inl (inl p.3)))) h ne

  pub waits_lent : (r : Option Key) (n : ℕ) → IsFirst (IsOther orders.late lent_clock slots items) r → IsNotClear k r n → n ≢ k.number → (has_turn k 0 rows ≡ false) × IsBefore rows k n
  waits_lent r n first h ne = waits_of rows k (IsOther orders.late lent_clock slots items) r n first (λ j p. floor_there j.number p.0 j.clock p.2 (among_floor (row_in items p.0) j.clock (all.ordered.floors p.0) (inr p.3))) h ne

  -- one that comes before the key is found in its slot
  pub waits_found : (n : ℕ) → IsNotAbove slots items k n → (has_turn k 0 rows ≡ false) × IsBefore rows k n
  waits_found n h =
      let is = not_above k n (row_in items h.0) h.2 in
      turn_waits rows k (key is.0 n) (floor_there n h.0 is.0 h.1 is.1) is.2 is.3

  pub turn_found : AllAbove slots items k → has_turn k 0 rows ≡ true
  turn_found h = turn_if k rows (λ n c e.
      let at = slot_of_clock count slots items orders all floor_clock refl n c e in
      above_clock k n (row_in items at.0) c at.2 (h at.0 n at.1))

  pub blocks : (seen : Items) (r : Option ℕ) → seen ≡ items → IfNone r (AllAbove slots seen k) → IfSome r (λ n. IsNotAbove slots seen k n) → MatchOption r (has_turn k 0 rows ≡ true) (λ n. (has_turn k 0 rows ≡ false) × IsBefore rows k n)
  blocks seen None see none some = turn_found (subst (λ (xs : Items). AllAbove slots xs k) see none)
  blocks seen (Some n) see none some = waits_found n (subst (λ (xs : Items). IsNotAbove slots xs k n) see some)

  module _ (own : Option Key) (is : own ≡ keyed (number_at slots orders.late) (floor_clock (row_in items orders.late))) where
    own_floor : (j : Key) → own ≡ Some j → floor_clock (slice_index_or rows j.number None) ≡ Some j.clock
    own_floor j e =
        let found = keyed_some (number_at slots orders.late) (floor_clock (row_in items orders.late)) j (sym is ∙ e) in
        floor_there j.number orders.late j.clock found.0 found.1

    pub waits_own : (n : ℕ) → IsNotClear k own n → n ≢ k.number → (has_turn k 0 rows ≡ false) × IsBefore rows k n
    waits_own n h ne = waits_of rows k (λ j. own ≡ Some j) own n (first_alone own) own_floor h ne

    pub turn_clear : (w f l : Option Key) → IsFirst (IsOther orders.late waiting_clock slots items) w → IsFirst (IsOther orders.late free_clock slots items) f → IsFirst (IsOther orders.late lent_clock slots items) l
        → IfSome own (IsClear k) → IfSome w (IsClear k) → IfSome f (IsClear k) → IfSome l (IsClear k) → has_turn k 0 rows ≡ true
    turn_clear w f l x y z co cw cf cl = turn_if k rows (λ n c e. elim (is_anyones count slots items orders all floor_clock refl n c e) [
      | inl q ↦ clear_all k (λ j. own ≡ Some j) own (first_alone own) co (key c n) (is ∙ q)
      | inr o ↦ elim (floor_among (row_in items o.0) c (all.ordered.floors o.0) o.3) [
        | inl a ↦ elim a [
          | inl p ↦ clear_all k (IsOther orders.late waiting_clock slots items) w x cw (key c n) (o.0, o.1, o.2, p)
          | inr p ↦ clear_all k (IsOther orders.late free_clock slots items) f y cf (key c n) (o.0, o.1, o.2, p)
        ]
        | inr p ↦ clear_all k (IsOther orders.late lent_clock slots items) l z cl (key c n) (o.0, o.1, o.2, p)
      ]
    ])

pub for_none : (r : Option ℕ) (A B : Type 0) → IfNone r A → (A → B) → IfNone r B
for_none None A B a f = f a
for_none (Some n) A B a f = tt

pub for_some : (r : Option ℕ) (P Q : ℕ → Type 0) → IfSome r P → ((n : ℕ) → P n → Q n) → IfSome r Q
for_some None P Q p f = tt
for_some (Some n) P Q p f = f n p
