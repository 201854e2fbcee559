-- What changes of an item keep.
use Rattle.std.proofs.Common.{◌≡◌, ◌≢◌, ◌∙◌, ℕ, zero, suc, ◌+◌, ◌<◌, ◌≤◌, Bool, List, [], ◌∷◌, ◌++◌, length, take, drop, Option, Some, None, refl, ap, sym, subst, arith, inl, inr, length-set, get_or-set_same, get_or-set_other}
use Rattle.std.specs.Prelude.{IfSome, IsSome, slice_index_or, slice_set}
use Rattle.std.proofs.lemmas.Bool.{cases_eq, cases_lt}
use Rattle.std.proofs.lemmas.Grind.{common_steps}
use Rattle.std.proofs.lemmas.List.{length-append}
use Rattle.std.proofs.Math.ListN.{get_or-eq_default}
use Rattle.logical_clock.specs.declared.key.Key.{Key}
use Rattle.slot_index.specs.Numbers.{Frees, Gives, IsInverse, Numbered, number_at, slot_of}
use Rattle.turn_rule.specs.declared.Row.{Row}
use Rattle.awake_rows.specs.declared.goroutine.Goroutine.{Goroutine}
use Rattle.awake_rows.specs.declared.orders.Orders.{Orders}
use Rattle.awake_rows.specs.declared.slot.Held.{Held}
use Rattle.awake_rows.specs.declared.slot.Held.TheVariants.{Here, Lent, Ahead}
use Rattle.awake_rows.specs.declared.turns.Among.{Among}
use Rattle.awake_rows.specs.declared.turns.Among.TheVariants as among
use Rattle.awake_rows.specs.Slots.{IsFloor, KeepsFloor, State, clock_among, free_clock, held_state, lease_of, lent_clock, waiting_clock}
use Rattle.awake_rows.specs.Living.{AllKeepFloors, AreKeysBut, AreLiving, AreOrders, Grows, HaveGrown, HaveRoom, Items, asleep_of, awake_of, item_in, key_of, keyed, living_in, now_late, numbered, row_in, with_key, with_place}

pub nobody_counts : (a : Among) → clock_among a None ≡ None
nobody_counts among.Parked = refl
nobody_counts among.Free = refl
nobody_counts among.Awake = refl

-- ---- lists by number

pub same_lists : {A : Type 0} (xs ys : List (Option A)) → length xs ≡ length ys → ((i : ℕ) → slice_index_or xs i None ≡ slice_index_or ys i None) → xs ≡ ys
same_lists [] [] e h = refl
same_lists [] (y ∷ ys) e h = absurd (omega (arith, e))
same_lists (x ∷ xs) [] e h = absurd (omega (arith, e))
same_lists (x ∷ xs) (y ∷ ys) e h =
    let first : x ≡ y = h zero in
    let rest : xs ≡ ys = same_lists xs ys (omega (arith, e)) (λ i. h (suc i)) in
    λ i. first i ∷ rest i

pub numbered_length : {A : Type 0} (give : ℕ → A) (n count : ℕ) → length (numbered give n count) ≡ count
numbered_length give n zero = refl
numbered_length give n (suc count) = ap suc (numbered_length give (suc n) count)

pub numbered_at : {A : Type 0} (give : ℕ → Option A) (n count i : ℕ) → i < count → slice_index_or (numbered give n count) i None ≡ give (n + i)
numbered_at give n zero i l = absurd (omega (arith, l))
numbered_at give n (suc count) zero l = ap give (omega arith)
numbered_at give n (suc count) (suc i) l = numbered_at give (suc n) count i (omega (arith, l)) ∙ ap give (omega arith)

numbered_first : {A : Type 0} (give : ℕ → Option A) (count i : ℕ) → i < count → slice_index_or (numbered give 0 count) i None ≡ give i
numbered_first give count i l = numbered_at give 0 count i l ∙ ap give (omega arith)

numbered_past : {A : Type 0} (give : ℕ → Option A) (count i : ℕ) → count ≤ i → slice_index_or (numbered give 0 count) i None ≡ None
numbered_past give count i l = get_or-eq_default (numbered give 0 count) None (omega (arith, l, numbered_length give 0 count))

numbered_same : {A : Type 0} (give other : ℕ → Option A) (count : ℕ) → ((i : ℕ) → other i ≡ give i) → numbered other 0 count ≡ numbered give 0 count
numbered_same give other count same = same_lists (numbered other 0 count) (numbered give 0 count) (numbered_length other 0 count ∙ sym (numbered_length give 0 count)) (λ i. elim (cases_lt i count) [
  | inl l ↦ numbered_first other count i l ∙ same i ∙ sym (numbered_first give count i l)
  | inr l ↦ numbered_past other count i l ∙ sym (numbered_past give count i l)
])

-- what is at one number's index changes
numbered_set : {A : Type 0} (give other : ℕ → Option A) (count n : ℕ) → n < count → ((i : ℕ) → i ≢ n → other i ≡ give i) → numbered other 0 count ≡ slice_set (numbered give 0 count) n (other n)
numbered_set give other count n l same =
    let all : List (Option _) = numbered give 0 count in
    let size : length all ≡ count = numbered_length give 0 count in
    same_lists (numbered other 0 count) (slice_set all n (other n)) (numbered_length other 0 count ∙ sym size ∙ sym (length-set all n (other n))) (λ i. elim (cases_eq i n) [
      | inl e ↦ ap (λ (j : ℕ). slice_index_or (numbered other 0 count) j None) e ∙ numbered_first other count n l ∙ sym (get_or-set_same all n (other n) None (omega (arith, l, size))) ∙ ap (λ (j : ℕ). slice_index_or (slice_set all n (other n)) j None) (sym e)
      | inr ne ↦ elim (cases_lt i count) [
        | inl k ↦ numbered_first other count i k ∙ same i ne ∙ sym (numbered_first give count i k) ∙ sym (get_or-set_other all n i (other n) None ne)
        | inr k ↦ numbered_past other count i k ∙ sym (numbered_past give count i k) ∙ sym (get_or-set_other all n i (other n) None ne)
      ]
    ])

-- one number more
numbered_more : {A : Type 0} (give other : ℕ → Option A) (n count : ℕ) → ((i : ℕ) → i < n + count → other i ≡ give i) → numbered other n (suc count) ≡ numbered give n count ++ other (n + count) ∷ []
numbered_more give other n zero same = ap (λ (j : ℕ). other j ∷ []) (omega arith)
numbered_more give other n (suc count) same =
    let first : other n ≡ give n = same n (omega arith) in
    let rest : numbered other (suc n) (suc count) ≡ numbered give (suc n) count ++ other (suc n + count) ∷ [] = numbered_more give other (suc n) count (λ i l. same i (omega (arith, l))) in
    let last : other (suc n + count) ≡ other (n + suc count) = ap other (omega arith) in
    (λ i. first i ∷ rest i) ∙ ap (λ x. give n ∷ (numbered give (suc n) count ++ x ∷ [])) last

-- ---- slots

-- the item in a slot is its number's
pub item_here : (slots : Numbered) (items : Items) (n s : ℕ) → slot_of slots n ≡ Some s → item_in items (slot_of slots n) ≡ slice_index_or items s None
item_here slots items n s e = ap (item_in items) e

-- a number without a slot has no item
pub item_none : (slots : Numbered) (items : Items) (n : ℕ) → slot_of slots n ≡ None → item_in items (slot_of slots n) ≡ None
item_none slots items n e = ap (item_in items) e

-- another one has another slot
pub other_slot : (slots : Numbered) → IsInverse slots → (n m s t : ℕ) → slot_of slots n ≡ Some s → slot_of slots m ≡ Some t → m ≢ n → t ≢ s
other_slot slots inverse n m s t e f ne q =
    let mine : number_at slots s ≡ Some n = inverse.number n s e in
    let its : number_at slots t ≡ Some m = inverse.number m t f in
    let here : number_at slots s ≡ Some m = ap (number_at slots) (sym q) ∙ its in
    let same : Some m ≡ Some n = sym here ∙ mine in
    ne (cc)

item_apart : (items new : Items) (s : ℕ) (o : Option ℕ) → ((t : ℕ) → t ≢ s → slice_index_or new t None ≡ slice_index_or items t None) → ((t : ℕ) → o ≡ Some t → t ≢ s) → item_in new o ≡ item_in items o
item_apart items new s None same apart = refl
item_apart items new s (Some t) same apart = same t (apart t refl)

-- the items of others are what they were
pub item_other : (slots : Numbered) (items new : Items) → IsInverse slots → (n s : ℕ) → slot_of slots n ≡ Some s → ((t : ℕ) → t ≢ s → slice_index_or new t None ≡ slice_index_or items t None) → (m : ℕ) → m ≢ n → item_in new (slot_of slots m) ≡ item_in items (slot_of slots m)
item_other slots items new inverse n s e same m ne = item_apart items new s (slot_of slots m) same (λ t f. other_slot slots inverse n m s t e f ne)

-- a slot that is free belongs to no goroutine
nobodys : (slots : Numbered) → IsInverse slots → (s m t : ℕ) → number_at slots s ≡ None → slot_of slots m ≡ Some t → t ≢ s
nobodys slots inverse s m t free e q =
    let its : number_at slots s ≡ Some m = ap (number_at slots) (sym q) ∙ inverse.number m t e in
    let no : None ≡ Some m = sym free ∙ its in
    absurd (cc)

number_item : {A : Type 0} (f : Option Goroutine → Option A) → f None ≡ None → (count : ℕ) (slots : Numbered) (items : Items) → ((n s : ℕ) → slot_of slots n ≡ Some s → n < count) → (n : ℕ)
    → slice_index_or (numbered (λ i. f (item_in items (slot_of slots i))) 0 count) n None ≡ f (item_in items (slot_of slots n))
number_item f none count slots items below n = elim (cases_lt n count) [
  | inl l ↦ numbered_first (λ i. f (item_in items (slot_of slots i))) count n l
  | inr l ↦ numbered_past (λ i. f (item_in items (slot_of slots i))) count n l ∙ sym none ∙ ap f (sym (past (slot_of slots n) refl l))
] where
  past : (o : Option ℕ) → slot_of slots n ≡ o → count ≤ n → item_in items (slot_of slots n) ≡ None
  past None e l = ap (item_in items) e
  past (Some s) e l = absurd (omega (arith, l, below n s e))

-- the row of a number is that in its slot
pub row_of_number : (count : ℕ) (slots : Numbered) (items : Items) → ((n s : ℕ) → slot_of slots n ≡ Some s → n < count) → (n : ℕ) → slice_index_or (living_in count slots items).rows n None ≡ awake_of (item_in items (slot_of slots n))
row_of_number count slots items below n = number_item awake_of refl count slots items below n

pub bed_of_number : (count : ℕ) (slots : Numbered) (items : Items) → ((n s : ℕ) → slot_of slots n ≡ Some s → n < count) → (n : ℕ) → slice_index_or (living_in count slots items).beds n None ≡ asleep_of (item_in items (slot_of slots n))
bed_of_number count slots items below n = number_item asleep_of refl count slots items below n

-- what is at a number's index, by its slot
module _ (count : ℕ) (slots : Numbered) (items : Items) (orders : Orders) (all : AreLiving count slots items orders) (n : ℕ) where
  pub row_none : slot_of slots n ≡ None → slice_index_or (living_in count slots items).rows n None ≡ None
  row_none e = row_of_number count slots items all.below n ∙ ap (λ (o : Option ℕ). awake_of (item_in items o)) e

  pub bed_none : slot_of slots n ≡ None → slice_index_or (living_in count slots items).beds n None ≡ None
  bed_none e = bed_of_number count slots items all.below n ∙ ap (λ (o : Option ℕ). asleep_of (item_in items o)) e

  pub row_some : (s : ℕ) → slot_of slots n ≡ Some s → slice_index_or (living_in count slots items).rows n None ≡ row_in items s
  row_some s e = row_of_number count slots items all.below n ∙ ap (λ (o : Option ℕ). awake_of (item_in items o)) e

  pub bed_some : (s : ℕ) → slot_of slots n ≡ Some s → slice_index_or (living_in count slots items).beds n None ≡ asleep_of (slice_index_or items s None)
  bed_some s e = bed_of_number count slots items all.below n ∙ ap (λ (o : Option ℕ). asleep_of (item_in items o)) e

pub none_living : (slots : Numbered) (items : Items) (orders : Orders) → ((n : ℕ) → slot_of slots n ≡ None) → ((s : ℕ) → number_at slots s ≡ None) → AreOrders orders slots items → AreLiving 0 slots items orders
none_living slots items orders none free o = record {
  inverse = record { number = λ n s e. nobody n s (number_at slots s ≡ Some n) e; slot = λ n s e. let no : None ≡ Some n = sym (free s) ∙ e in absurd (cc) };
  below = λ n s e. nobody n s (n < 0) e;
  within = λ n s e. nobody n s (s < length items) e;
  taken = λ n s e. nobody n s (IsSome (slice_index_or items s None)) e;
  ordered = o;
} where
  nobody : (n s : ℕ) (P : Type 0) → slot_of slots n ≡ Some s → P
  nobody n s P e = let no : None ≡ Some s = sym (none n) ∙ e in absurd (cc)

-- ---- the orders

module _ (clock : Option (Row State) → Option ℕ) (none : clock None ≡ None) where
  keyed_none : (number : Option ℕ) → keyed number (clock None) ≡ None
  keyed_none None = refl
  keyed_none (Some n) = ap (key_of n) none

  keyed_past : (slots : Numbered) (items : Items) (s : ℕ) → length items ≤ s → keyed (number_at slots s) (clock (row_in items s)) ≡ None
  keyed_past slots items s l = ap (λ (o : Option Goroutine). keyed (number_at slots s) (clock (awake_of o))) (get_or-eq_default items None l) ∙ keyed_none (number_at slots s)

  -- the key that the late slot gets
  key_there : (ks : List (Option Key)) (late : ℕ) (o : Option Key) → slice_index_or ks late None ≡ None → (length ks ≤ late → o ≡ None) → slice_index_or (with_key ks late o) late None ≡ o
  key_there ks late None absent past = absent
  key_there ks late (Some key) absent past = elim (cases_lt late (length ks)) [
    | inl l ↦ get_or-set_same ks late (Some key) None l
    | inr l ↦ let no : Some key ≡ None = past l in absurd (cc)
  ]

  key_apart : (ks : List (Option Key)) (late t : ℕ) (o : Option Key) → t ≢ late → slice_index_or (with_key ks late o) t None ≡ slice_index_or ks t None
  key_apart ks late t None ne = refl
  key_apart ks late t (Some key) ne = get_or-set_other ks late t (Some key) None ne

  key_length : (ks : List (Option Key)) (late : ℕ) (o : Option Key) → length (with_key ks late o) ≡ length ks
  key_length ks late None = refl
  key_length ks late (Some key) = length-set ks late (Some key)

  freed : (ks : List (Option Key)) (s : ℕ) → slice_index_or (slice_set ks s None) s None ≡ None
  freed ks s = elim (cases_lt s (length ks)) [
    | inl l ↦ get_or-set_same ks s None None l
    | inr l ↦ get_or-eq_default (slice_set ks s None) None (omega (arith, l, length-set ks s None))
  ]

  module _ (late s : ℕ) (ks : List (Option Key)) (before slots : Numbered) (old items : Items) (k : AreKeysBut late clock ks before old) (room : length items ≤ length ks)
      (numbers : (t : ℕ) → t ≢ s → number_at slots t ≡ number_at before t) (rows : (t : ℕ) → t ≢ s → row_in items t ≡ row_in old t) where
    same_key_in : (t : ℕ) → t ≢ s → keyed (number_at before t) (clock (row_in old t)) ≡ keyed (number_at slots t) (clock (row_in items t))
    same_key_in t ne = ap (λ (o : Option ℕ). keyed o (clock (row_in old t))) (sym (numbers t ne)) ∙ ap (λ (o : Option (Row State)). keyed (number_at slots t) (clock o)) (sym (rows t ne))

    -- the late one's row changes once more
    keys_same : s ≡ late → AreKeysBut late clock ks slots items
    keys_same e = record { room = room; absent = k.absent; others = λ t ne. k.others t ne ∙ same_key_in t (λ q. ne (q ∙ e)) }

    -- another one's row changes
    keys_later : AreKeysBut s clock (slice_set (with_key ks late (keyed (number_at slots late) (clock (row_in items late)))) s None) slots items
    keys_later =
        let key : Option Key = keyed (number_at slots late) (clock (row_in items late)) in
        let put : List (Option Key) = with_key ks late key in
        record {
          room = omega (arith, room, length-set put s None, key_length ks late key);
          absent = freed put s;
          others = λ t ne. get_or-set_other put s t None None ne ∙ elim (cases_eq t late) [
            | inl e ↦ ap (λ (j : ℕ). slice_index_or put j None) e ∙ key_there ks late key k.absent (λ l. keyed_past slots items late (omega (arith, l, room)))
                ∙ ap (λ (j : ℕ). keyed (number_at slots j) (clock (row_in items j))) (sym e)
            | inr other ↦ key_apart ks late t key other ∙ k.others t other ∙ same_key_in t ne
          ];
        }

  keys_grown : (late : ℕ) (ks js : List (Option Key)) (slots : Numbered) (items new : Items) → AreKeysBut late clock ks slots items → Grows ks js → Grows items new → length new ≤ length js → AreKeysBut late clock js slots new
  keys_grown late ks js slots items new k g h room = record {
    room = room;
    absent = g.same late ∙ k.absent;
    others = λ t ne. g.same t ∙ k.others t ne ∙ ap (λ (o : Option Goroutine). keyed (number_at slots t) (clock (awake_of o))) (sym (h.same t));
  }

floors_kept : (old items : Items) (s : ℕ) → AllKeepFloors old → ((t : ℕ) → t ≢ s → row_in items t ≡ row_in old t) → IfSome (row_in items s) KeepsFloor → AllKeepFloors items
floors_kept old items s all same one t = elim (cases_eq t s) [
  | inl e ↦ subst (λ (i : ℕ). IfSome (row_in items i) KeepsFloor) (sym e) one
  | inr ne ↦ subst (λ (o : Option (Row State)). IfSome o KeepsFloor) (sym (same t ne)) (all t)
]

-- what `note` has left of the orders
pub record IsNoted (orders : Orders) (slots : Numbered) (items : Items) (s : ℕ) (after : Orders) : Type 0 where
  pub same : s ≡ orders.late → after ≡ orders
  pub other : s ≢ orders.late → after ≡ now_late orders slots items s
  pub floor : IfSome (row_in items s) KeepsFloor

-- the row in a slot changes, and its goroutine is late
orders_noted : (orders after : Orders) (before slots : Numbered) (old items : Items) (s : ℕ) → AreOrders orders before old → HaveRoom orders (length items) → ((t : ℕ) → t ≢ s → number_at slots t ≡ number_at before t)
    → ((t : ℕ) → t ≢ s → row_in items t ≡ row_in old t) → IsNoted orders slots items s after → AreOrders after slots items
orders_noted orders after before slots old items s o room numbers rows noted =
    let floors : AllKeepFloors items = floors_kept old items s o.floors rows noted.floor in
    elim (cases_eq s orders.late) [
      | inl e ↦ subst (λ (x : Orders). AreOrders x slots items) (sym (noted.same e)) (record {
        parked = keys_same waiting_clock refl orders.late s orders.parked before slots old items o.parked room.parked numbers rows e;
        free = keys_same free_clock refl orders.late s orders.free before slots old items o.free room.free numbers rows e;
        lent = keys_same lent_clock refl orders.late s orders.lent before slots old items o.lent room.lent numbers rows e;
        floors = floors;
      })
      | inr ne ↦ subst (λ (x : Orders). AreOrders x slots items) (sym (noted.other ne)) (record {
        parked = keys_later waiting_clock refl orders.late s orders.parked before slots old items o.parked room.parked numbers rows;
        free = keys_later free_clock refl orders.late s orders.free before slots old items o.free room.free numbers rows;
        lent = keys_later lent_clock refl orders.late s orders.lent before slots old items o.lent room.lent numbers rows;
        floors = floors;
      })
    ]

pub orders_room : (orders : Orders) (slots : Numbered) (items : Items) → AreOrders orders slots items → HaveRoom orders (length items)
orders_room orders slots items o = record { parked = o.parked.room; free = o.free.room; lent = o.lent.room }

-- ---- more indexes

none_more : {A : Type 0} (xs : List (Option A)) (i : ℕ) → slice_index_or (xs ++ None ∷ []) i None ≡ slice_index_or xs i None
none_more [] zero = refl
none_more [] (suc i) = refl
none_more (x ∷ xs) zero = refl
none_more (x ∷ xs) (suc i) = none_more xs i

pub grown_one : {A : Type 0} (xs ys : List (Option A)) → ys ≡ xs ++ None ∷ [] → Grows xs ys
grown_one xs ys e = subst (λ zs. Grows xs zs) (sym e) (record { size = omega (arith, length-append xs (None ∷ [])); same = none_more xs })

pub grown_not : {A : Type 0} (xs : List (Option A)) → Grows xs xs
grown_not xs = record { size = omega arith; same = λ i. refl }

pub grown_twice : {A : Type 0} (xs ys zs : List (Option A)) → Grows xs ys → Grows ys zs → Grows xs zs
grown_twice xs ys zs g h = record { size = omega (arith, g.size, h.size); same = λ i. h.same i ∙ g.same i }

pub have_grown_twice : (a b c : Orders) → HaveGrown a b → HaveGrown b c → HaveGrown a c
have_grown_twice a b c g h = record {
  parked = grown_twice a.parked b.parked c.parked g.parked h.parked;
  free = grown_twice a.free b.free c.free g.free h.free;
  lent = grown_twice a.lent b.lent c.lent g.lent h.lent;
  late = h.late ∙ g.late;
}

pub have_place : (a b : Orders) → b ≡ with_place a → HaveGrown a b
have_place a b e = subst (λ x. HaveGrown a x) (sym e) (record {
  parked = grown_one a.parked (a.parked ++ None ∷ []) refl;
  free = grown_one a.free (a.free ++ None ∷ []) refl;
  lent = grown_one a.lent (a.lent ++ None ∷ []) refl;
  late = refl;
})

pub room_grown : (a b : Orders) (count : ℕ) → HaveGrown a b → HaveRoom a count → HaveRoom b count
room_grown a b count g r = record { parked = omega (arith, g.parked.size, r.parked); free = omega (arith, g.free.size, r.free); lent = omega (arith, g.lent.size, r.lent) }

pub orders_grown : (a b : Orders) (slots : Numbered) (items new : Items) → AreOrders a slots items → HaveGrown a b → Grows items new → HaveRoom b (length new) → AreOrders b slots new
orders_grown a b slots items new o g h room = record {
  parked = kept waiting_clock b.parked (keys_grown waiting_clock refl a.late a.parked b.parked slots items new o.parked g.parked h room.parked);
  free = kept free_clock b.free (keys_grown free_clock refl a.late a.free b.free slots items new o.free g.free h room.free);
  lent = kept lent_clock b.lent (keys_grown lent_clock refl a.late a.lent b.lent slots items new o.lent g.lent h room.lent);
  floors = λ s. subst (λ (o : Option Goroutine). IfSome (awake_of o) KeepsFloor) (sym (h.same s)) (o.floors s);
} where
  kept : (clock : Option (Row State) → Option ℕ) (ks : List (Option Key)) → AreKeysBut a.late clock ks slots new → AreKeysBut b.late clock ks slots new
  kept clock ks k = subst (λ (late : ℕ). AreKeysBut late clock ks slots new) (sym g.late) k

-- ---- all of it

-- what a change of the item in a slot is
pub record Changes (items : Items) (s : ℕ) (item : Option Goroutine) (new : Items) : Type 0 where
  pub size : length new ≡ length items
  pub here : slice_index_or new s None ≡ item
  pub others : (t : ℕ) → t ≢ s → slice_index_or new t None ≡ slice_index_or items t None

rows_apart : (items new : Items) (s : ℕ) → ((t : ℕ) → t ≢ s → slice_index_or new t None ≡ slice_index_or items t None) → (t : ℕ) → t ≢ s → row_in new t ≡ row_in items t
rows_apart items new s same t ne = ap awake_of (same t ne)

-- a goroutine's item changes
module _ (count : ℕ) (slots : Numbered) (items : Items) (orders : Orders) (all : AreLiving count slots items orders) (n s : ℕ) (has : slot_of slots n ≡ Some s) (item : Option Goroutine) (new : Items) (c : Changes items s item new) where
  pub kept_changed : IsSome item → (after : Orders) → IsNoted orders slots new s after → AreLiving count slots new after
  kept_changed there after noted = record {
    inverse = all.inverse;
    below = all.below;
    within = λ m t e. omega (arith, all.within m t e, c.size);
    taken = λ m t e. elim (cases_eq t s) [
      | inl q ↦ subst (λ (i : ℕ). IsSome (slice_index_or new i None)) (sym q) (subst (λ (o : Option Goroutine). IsSome o) (sym c.here) there)
      | inr ne ↦ subst (λ (o : Option Goroutine). IsSome o) (sym (c.others t ne)) (all.taken m t e)
    ];
    ordered = orders_noted orders after slots slots items new s all.ordered (subst (HaveRoom orders) (sym c.size) (orders_room orders slots items all.ordered)) (λ t ne. refl) (rows_apart items new s c.others) noted;
  }

  item_now : item_in new (slot_of slots n) ≡ item
  item_now = ap (item_in new) has ∙ c.here

  changed_lists : {A : Type 0} (f : Option Goroutine → Option A) → numbered (λ i. f (item_in new (slot_of slots i))) 0 count ≡ slice_set (numbered (λ i. f (item_in items (slot_of slots i))) 0 count) n (f item)
  changed_lists f =
      let lists = numbered_set (λ i. f (item_in items (slot_of slots i))) (λ i. f (item_in new (slot_of slots i))) count n (all.below n s has) (λ i ne. ap f (item_other slots items new all.inverse n s has c.others i ne)) in
      lists ∙ ap (λ x. slice_set (numbered (λ i. f (item_in items (slot_of slots i))) 0 count) n (f x)) item_now

  pub living_changed : living_in count slots new ≡ record { rows = slice_set (living_in count slots items).rows n (awake_of item); beds = slice_set (living_in count slots items).beds n (asleep_of item) }
  living_changed =
      let rows = changed_lists awake_of in
      let beds = changed_lists asleep_of in
      λ i. record { rows = rows i; beds = beds i }

  -- a goroutine has ended
  module _ (slots' : Numbered) (inverse' : IsInverse slots') (frees : Frees slots n slots') (gone : item ≡ None) where
    still : (m t : ℕ) → slot_of slots' m ≡ Some t → slot_of slots m ≡ Some t
    still m t e = elim (cases_eq m n) [
      | inl q ↦ let no : None ≡ Some t = sym frees.slot ∙ ap (slot_of slots') (sym q) ∙ e in absurd (cc)
      | inr ne ↦ sym (frees.slots m ne) ∙ e
    ]

    pub kept_ended : (after : Orders) → IsNoted orders slots' new s after → AreLiving count slots' new after
    kept_ended after noted = record {
      inverse = inverse';
      below = λ m t e. all.below m t (still m t e);
      within = λ m t e. omega (arith, all.within m t (still m t e), c.size);
      taken = λ m t e. elim (cases_eq m n) [
        | inl q ↦ let no : None ≡ Some t = sym frees.slot ∙ ap (slot_of slots') (sym q) ∙ e in absurd (cc)
        | inr ne ↦ subst (λ (o : Option Goroutine). IsSome o) (sym (c.others t (other_slot slots all.inverse n m s t has (still m t e) ne))) (all.taken m t (still m t e))
      ];
      ordered = orders_noted orders after slots slots' items new s all.ordered (subst (HaveRoom orders) (sym c.size) (orders_room orders slots items all.ordered)) (λ t ne. frees.numbers t (λ q. ne (let same : Some t ≡ Some s = sym q ∙ has in cc))) (rows_apart items new s c.others) noted;
    }

    ended_item : (m : ℕ) → m ≢ n → item_in new (slot_of slots' m) ≡ item_in items (slot_of slots m)
    ended_item m ne = ap (item_in new) (frees.slots m ne) ∙ item_other slots items new all.inverse n s has c.others m ne

    ended_lists : {A : Type 0} (f : Option Goroutine → Option A) → f None ≡ None → numbered (λ i. f (item_in new (slot_of slots' i))) 0 count ≡ slice_set (numbered (λ i. f (item_in items (slot_of slots i))) 0 count) n None
    ended_lists f none =
        let lists = numbered_set (λ i. f (item_in items (slot_of slots i))) (λ i. f (item_in new (slot_of slots' i))) count n (all.below n s has) (λ i ne. ap f (ended_item i ne)) in
        lists ∙ ap (λ x. slice_set (numbered (λ i. f (item_in items (slot_of slots i))) 0 count) n x) (ap (λ (o : Option ℕ). f (item_in new o)) frees.slot ∙ none)

    pub living_ended : living_in count slots' new ≡ record { rows = slice_set (living_in count slots items).rows n None; beds = slice_set (living_in count slots items).beds n None }
    living_ended =
        let rows = ended_lists awake_of refl in
        let beds = ended_lists asleep_of refl in
        λ i. record { rows = rows i; beds = beds i }

-- slots more
module _ (count : ℕ) (slots : Numbered) (items : Items) (orders : Orders) (all : AreLiving count slots items orders) (room : ℕ) (grown : Orders) (new : Items) (g : HaveGrown orders grown) (h : Grows items new) (r : HaveRoom grown (length new)) where
  pub kept_grown : AreLiving count (record slots { room = room }) new grown
  kept_grown =
      let o = orders_grown orders grown slots items new all.ordered g h r in
      record {
        inverse = record { number = all.inverse.number; slot = all.inverse.slot };
        below = all.below;
        within = λ m t e. omega (arith, all.within m t e, h.size);
        taken = λ m t e. subst (λ (o : Option Goroutine). IsSome o) (sym (h.same t)) (all.taken m t e);
        ordered = record {
          parked = record { room = o.parked.room; absent = o.parked.absent; others = o.parked.others };
          free = record { room = o.free.room; absent = o.free.absent; others = o.free.others };
          lent = record { room = o.lent.room; absent = o.lent.absent; others = o.lent.others };
          floors = o.floors;
        };
      }

  grown_item : (o : Option ℕ) → item_in new o ≡ item_in items o
  grown_item None = refl
  grown_item (Some s) = h.same s

  grown_lists : {A : Type 0} (f : Option Goroutine → Option A) → numbered (λ i. f (item_in new (slot_of slots i))) 0 count ≡ numbered (λ i. f (item_in items (slot_of slots i))) 0 count
  grown_lists f = numbered_same (λ i. f (item_in items (slot_of slots i))) (λ i. f (item_in new (slot_of slots i))) count (λ i. ap f (grown_item (slot_of slots i)))

  pub living_grown : living_in count (record slots { room = room }) new ≡ living_in count slots items
  living_grown =
      let rows = grown_lists awake_of in
      let beds = grown_lists asleep_of in
      λ i. record { rows = rows i; beds = beds i }

-- a goroutine is started
module _ (count : ℕ) (slots : Numbered) (items : Items) (orders : Orders) (all : AreLiving count slots items orders) (slots' : Numbered) (inverse' : IsInverse slots') (s : ℕ) (gives : Gives slots count s slots') (item : Option Goroutine) (new : Items) (c : Changes items s item new)
    (room : s < length items) where
  before : (m t : ℕ) → m ≢ count → slot_of slots' m ≡ Some t → slot_of slots m ≡ Some t
  before m t ne e = sym (gives.slots m ne) ∙ e

  same_slot : (m t : ℕ) → m ≡ count → slot_of slots' m ≡ Some t → t ≡ s
  same_slot m t q e = let same : Some t ≡ Some s = sym e ∙ ap (slot_of slots') q ∙ gives.slot in cc

  pub kept_started : IsSome item → (after : Orders) → IsNoted orders slots' new s after → AreLiving (count + 1) slots' new after
  kept_started there after noted = record {
    inverse = inverse';
    below = λ m t e. elim (cases_eq m count) [
      | inl q ↦ omega (arith, q)
      | inr ne ↦ omega (arith, all.below m t (before m t ne e))
    ];
    within = λ m t e. elim (cases_eq m count) [
      | inl q ↦ omega (arith, same_slot m t q e, room, c.size)
      | inr ne ↦ omega (arith, all.within m t (before m t ne e), c.size)
    ];
    taken = λ m t e. elim (cases_eq m count) [
      | inl q ↦ subst (λ (i : ℕ). IsSome (slice_index_or new i None)) (sym (same_slot m t q e)) (subst (λ (o : Option Goroutine). IsSome o) (sym c.here) there)
      | inr ne ↦ subst (λ (o : Option Goroutine). IsSome o) (sym (c.others t (nobodys slots all.inverse s m t gives.free (before m t ne e)))) (all.taken m t (before m t ne e))
    ];
    ordered = orders_noted orders after slots slots' items new s all.ordered (subst (HaveRoom orders) (sym c.size) (orders_room orders slots items all.ordered)) gives.numbers (rows_apart items new s c.others) noted;
  }

  started_item : (m : ℕ) → m < count → item_in new (slot_of slots' m) ≡ item_in items (slot_of slots m)
  started_item m l =
      ap (item_in new) (gives.slots m (λ q. absurd (omega (arith, l, q))))
      ∙ item_apart items new s (slot_of slots m) c.others (λ t e. nobodys slots all.inverse s m t gives.free e)

  started_lists : {A : Type 0} (f : Option Goroutine → Option A) → numbered (λ i. f (item_in new (slot_of slots' i))) 0 (count + 1) ≡ numbered (λ i. f (item_in items (slot_of slots i))) 0 count ++ f item ∷ []
  started_lists f =
      let more : count + 1 ≡ suc count = omega arith in
      ap (numbered (λ i. f (item_in new (slot_of slots' i))) 0) more
      ∙ numbered_more (λ i. f (item_in items (slot_of slots i))) (λ i. f (item_in new (slot_of slots' i))) 0 count (λ i l. ap f (started_item i (omega (arith, l))))
      ∙ ap (λ x. numbered (λ i. f (item_in items (slot_of slots i))) 0 count ++ f x ∷ []) (ap (λ (j : ℕ). item_in new (slot_of slots' j)) (omega arith) ∙ ap (item_in new) gives.slot ∙ c.here)

  pub living_started : living_in (count + 1) slots' new ≡ record { rows = (living_in count slots items).rows ++ awake_of item ∷ []; beds = (living_in count slots items).beds ++ asleep_of item ∷ [] }
  living_started =
      let rows = started_lists awake_of in
      let beds = started_lists asleep_of in
      λ i. record { rows = rows i; beds = beds i }

-- a number that no goroutine has
module _ (count : ℕ) (slots : Numbered) (items : Items) (orders : Orders) (all : AreLiving count slots items orders) where
  pub kept_skipped : AreLiving (count + 1) slots items orders
  kept_skipped = record { inverse = all.inverse; below = λ m t e. omega (arith, all.below m t e); within = all.within; taken = all.taken; ordered = all.ordered }

  nobody : (o : Option ℕ) → slot_of slots count ≡ o → item_in items (slot_of slots count) ≡ None
  nobody None e = ap (item_in items) e
  nobody (Some s) e = absurd (omega (arith, all.below count s e))

  skipped_lists : {A : Type 0} (f : Option Goroutine → Option A) → f None ≡ None → numbered (λ i. f (item_in items (slot_of slots i))) 0 (count + 1) ≡ numbered (λ i. f (item_in items (slot_of slots i))) 0 count ++ None ∷ []
  skipped_lists f none =
      let more : count + 1 ≡ suc count = omega arith in
      ap (numbered (λ i. f (item_in items (slot_of slots i))) 0) more
      ∙ numbered_more (λ i. f (item_in items (slot_of slots i))) (λ i. f (item_in items (slot_of slots i))) 0 count (λ i l. refl)
      ∙ ap (λ x. numbered (λ i. f (item_in items (slot_of slots i))) 0 count ++ x ∷ []) (ap (λ (j : ℕ). f (item_in items (slot_of slots j))) (omega arith) ∙ ap f (nobody (slot_of slots count) refl) ∙ none)

  pub living_skipped : living_in (count + 1) slots items ≡ record { rows = (living_in count slots items).rows ++ None ∷ []; beds = (living_in count slots items).beds ++ None ∷ [] }
  living_skipped =
      let rows = skipped_lists awake_of refl in
      let beds = skipped_lists asleep_of refl in
      λ i. record { rows = rows i; beds = beds i }

-- ---- as a vector's slice is written back

whole : (xs ys : Items) (n : ℕ) → n ≡ length xs → length ys ≡ length xs → take n (xs ++ drop (length xs) ys) ≡ xs
whole xs ys n e size = grind (arith, common_steps)

pub written_back : (items given rows : Items) (len s : ℕ) (item : Option Goroutine) → s < length items → len ≡ length items → given ≡ items → rows ≡ slice_set given s item → Changes items s item (take len (rows ++ drop (length rows) items))
written_back items given rows len s item within size same e =
    let set : rows ≡ slice_set items s item = e ∙ ap (λ (xs : Items). slice_set xs s item) same in
    let long : length rows ≡ length items = ap length set ∙ length-set items s item in
    let back : take len (rows ++ drop (length rows) items) ≡ slice_set items s item = whole rows items len (size ∙ sym long) (sym long) ∙ set in
    subst (λ (xs : Items). Changes items s item xs) (sym back) (record { size = length-set items s item; here = get_or-set_same items s item None within; others = λ t ne. get_or-set_other items s t item None ne })

-- ---- a slot keeps its floor

pub slot_keeps : (held : Held) (floor : ℕ) (parked : Bool) → IsFloor held floor parked → KeepsFloor (record { state = held_state held; floor = floor; lease = lease_of held; parked = parked })
slot_keeps (Here state) floor parked h = record { floor = λ e. h; unlent = λ e. refl }
slot_keeps (Lent kept) floor parked h = record { floor = λ e. absurd (cc); unlent = λ e. absurd (cc) }
slot_keeps (Ahead ahead) floor parked h = record { floor = λ e. absurd (cc); unlent = λ e. absurd (cc) }
