-- What it takes to give a slot a key, or to free it.
use Rattle.std.proofs.Common.{◌≡◌, ◌≢◌, ℕ, suc, ◌+◌, ◌<◌, ◌≤◌, true, false, List, [], ◌∷◌, ◌++◌, length, refl, sym, ap, subst, ◌∙◌, inl, inr, ◌⊎◌, arith, get_or, set, get_or-set_same, get_or-set_other, length-set, Option, Some, None, map, Bool, ◌||◌}
use Rattle.std.specs.Prelude.{slice_index, slice_index_or, slice_set, IsSome}
use Rattle.std.specs.List.{AllPairs, list_any}
use Rattle.std.proofs.Math.Dec.{eqb}
use Rattle.std.proofs.Math.ListN.{get_or-append}
use Rattle.std.proofs.lemmas.List.{get_or_push, get_or-map, length-append, length-map, set-get_or}
use Rattle.std.proofs.lemmas.List.Quantifiers.{all_pairs_push}
use Rattle.std.proofs.lemmas.Map.Made.{IsDistinct-from_AllPairs}
use Rattle.std.proofs.lemmas.Map.Steps.{length-le_from_distinct_below}
use Rattle.std.proofs.lemmas.Bool.Decides.{Decides-eqb, eqb_tells}
use Rattle.std.proofs.lemmas.Bool.{cases_eq, cases_lt, false≢true}
use Rattle.logical_clock.specs.declared.key.Key.{Key}
use Rattle.logical_clock.specs.Order.{is_before}
use Rattle.key_index.specs.declared.heap.Entry.{Entry}
use Rattle.key_index.specs.declared.heap.TheConstants.{NOWHERE}
use Rattle.key_index.specs.Heap.{IsAboveChildren, IsHeap, IsHeapBut, IsHole, IsIndex, IsIndexWith, entry_at, key_at, keys_with, nobody}
use Rattle.key_index.proofs.Orders.{not_before_trans}
use Rattle.key_index.proofs.Holes.{some_within}

-- a slot that has the key already stays as it is
pub kept : (xs : List (Option Key)) (slot : ℕ) (key : Option Key) → slice_index_or xs slot None ≡ key → slice_set xs slot key ≡ xs
kept xs slot key is = ap (λ k. slice_set xs slot k) (sym is) ∙ set-get_or xs slot None

abbrev key_of : Option Key → Key → Key
key_of None k = k
key_of (Some k) _ = k

some_same : (j k : Key) → Some j ≡ Some k → j ≡ k
some_same j k h = ap (λ (o : Option Key). key_of o j) h

pub some_or_none : (o : Option Key) → (o ≡ None) ⊎ ((k : Key) × (o ≡ Some k))
some_or_none None = inl refl
some_or_none (Some k) = inr (k, refl)

pub some_key : (o : Option Key) → IsSome o → (k : Key) × (o ≡ Some k)
some_key None h = absurd (false≢true h)
some_key (Some k) h = (k, refl)

-- the entry of a slot is at q, where the heap had space or the slot's own entry
module _ (keys : List (Option Key)) (heap heap1 : List Entry) (places : List ℕ) (x : IsIndex keys heap places) (slot q : ℕ) (v : Key) (e : Entry) (is : e ≡ record { key = v; slot = slot }) (within : slot < length keys) (ql : q < length heap1) (le : length heap ≤ length heap1)
    (same : (i : ℕ) → i < length heap → i ≢ q → entry_at heap1 i ≡ entry_at heap i) (back : (i : ℕ) → i < length heap1 → i ≢ q → i < length heap)
    (own : (i : ℕ) → i < length heap → i ≢ q → (entry_at heap i).slot ≢ slot) (apart : (s : ℕ) (k : Key) → s ≢ slot → slice_index_or keys s None ≡ Some k → slice_index places s ≢ q) where
  own_slot : e.slot ≡ slot
  own_slot = ap (λ (n : Entry). n.slot) is

  own_key : e.key ≡ v
  own_key = ap (λ (n : Entry). n.key) is

  own_place : slice_index (set places e.slot q) slot ≡ q
  own_place = ap (λ (s : ℕ). slice_index (set places s q) slot) own_slot ∙ get_or-set_same places slot q 0 (omega (arith, x.slots))

  other_place : (s : ℕ) → s ≢ slot → slice_index (set places e.slot q) s ≡ slice_index places s
  other_place s ne = get_or-set_other places e.slot s q 0 (λ h. ne (h ∙ own_slot))

  at_q : entry_at (set heap1 q e) q ≡ e
  at_q = get_or-set_same heap1 q e nobody ql

  at_other : (i : ℕ) → i < length heap → i ≢ q → entry_at (set heap1 q e) i ≡ entry_at heap i
  at_other i il ne = get_or-set_other heap1 q i e nobody ne ∙ same i il ne

  placed_place : (s : ℕ) (k : Key) → slice_index_or (set keys slot (Some v)) s None ≡ Some k
      → (slice_index (set places e.slot q) s < length (set heap1 q e)) × (entry_at (set heap1 q e) (slice_index (set places e.slot q) s) ≡ record { key = k; slot = s })
  placed_place s k h = elim (cases_eq s slot) [
    | inl se ↦
        let at : slice_index (set places e.slot q) s ≡ q = ap (slice_index (set places e.slot q)) se ∙ own_place in
        let kv : v ≡ k = some_same v k (sym (get_or-set_same keys slot (Some v) None within) ∙ ap (λ (j : ℕ). slice_index_or (set keys slot (Some v)) j None) (sym se) ∙ h) in
        (omega (arith, length-set heap1 q e), ap (entry_at (set heap1 q e)) at ∙ at_q ∙ is ∙ ap (λ (j : Key). record { key = j; slot = slot }) kv ∙ ap (λ (t : ℕ). record { key = k; slot = t }) (sym se))
    | inr ne ↦
        let had : slice_index_or keys s None ≡ Some k = sym (get_or-set_other keys slot s (Some v) None ne) ∙ h in
        let was = x.place s k had in
        let at : slice_index (set places e.slot q) s ≡ slice_index places s = other_place s ne in
        (omega (arith, was.0, length-set heap1 q e), ap (entry_at (set heap1 q e)) at ∙ at_other (slice_index places s) was.0 (apart s k ne had) ∙ was.1)
  ]

  placed_entry : (i : ℕ) → i < length (set heap1 q e)
      → (slice_index_or (set keys slot (Some v)) (entry_at (set heap1 q e) i).slot None ≡ Some (key_at (set heap1 q e) i)) × (slice_index (set places e.slot q) (entry_at (set heap1 q e) i).slot ≡ i)
  placed_entry i il = elim (cases_eq i q) [
    | inl iq ↦
        subst (λ (n : Entry). (slice_index_or (set keys slot (Some v)) n.slot None ≡ Some n.key) × (slice_index (set places e.slot q) n.slot ≡ i)) (sym (ap (entry_at (set heap1 q e)) iq ∙ at_q ∙ is))
        (get_or-set_same keys slot (Some v) None within, own_place ∙ sym iq)
    | inr nq ↦
        let below : i < length heap = back i (omega (arith, length-set heap1 q e)) nq in
        let was = x.entry i below in
        let ns = own i below nq in
        subst (λ (n : Entry). (slice_index_or (set keys slot (Some v)) n.slot None ≡ Some n.key) × (slice_index (set places e.slot q) n.slot ≡ i)) (sym (at_other i below nq))
        (get_or-set_other keys slot (entry_at heap i).slot (Some v) None ns ∙ was.0, other_place (entry_at heap i).slot ns ∙ was.1)
  ]

  placed_free : (s : ℕ) → s < length (set places e.slot q) → slice_index_or (set keys slot (Some v)) s None ≡ None → slice_index (set places e.slot q) s ≡ NOWHERE
  placed_free s l h = elim (cases_eq s slot) [
    | inl se ↦ let some : Some v ≡ None = sym (get_or-set_same keys slot (Some v) None within) ∙ ap (λ (j : ℕ). slice_index_or (set keys slot (Some v)) j None) (sym se) ∙ h in absurd (cc)
    | inr ne ↦ other_place s ne ∙ x.free s (omega (arith, l, length-set places e.slot q)) (sym (get_or-set_other keys slot s (Some v) None ne) ∙ h)
  ]

  placed : IsIndexWith (set keys slot (Some v)) heap1 places q e
  placed = record {
    slots = length-set keys slot (Some v) ∙ x.slots ∙ sym (length-set places e.slot q);
    place = placed_place;
    entry = placed_entry;
    free = placed_free;
  }

-- a taken slot's key changes
module _ (keys : List (Option Key)) (heap : List Entry) (places : List ℕ) (x : IsIndex keys heap places) (order : IsHeap (key_at heap) (length heap)) (slot q : ℕ) (at : q ≡ slice_index places slot) (old v : Key) (was : slice_index_or keys slot None ≡ Some old) where
  old_within : slot < length keys
  old_within = some_within keys slot old was

  pub old_place : q < length heap
  old_place = omega (arith, (x.place slot old was).0)

  old_entry : entry_at heap q ≡ record { key = old; slot = slot }
  old_entry = ap (entry_at heap) at ∙ (x.place slot old was).1

  own_only : (i : ℕ) → i < length heap → i ≢ q → (entry_at heap i).slot ≢ slot
  own_only i il ne h = ne (sym (x.entry i il).1 ∙ ap (slice_index places) h ∙ sym at)

  others_apart : (s : ℕ) (k : Key) → s ≢ slot → slice_index_or keys s None ≡ Some k → slice_index places s ≢ q
  others_apart s k ne h z = ne (ap (λ (n : Entry). n.slot) (sym (x.place s k h).1 ∙ ap (entry_at heap) z ∙ old_entry))

  changed_key : (e : Entry) (i : ℕ) → i ≢ q → keys_with heap q e i ≡ key_at heap i
  changed_key e i ne = ap (λ (n : Entry). n.key) (get_or-set_other heap q i e nobody ne)

  changed_but : (e : Entry) → IsHeapBut (keys_with heap q e) (length heap) q
  changed_but e = record {
    others = λ p i il lo hi np ni. subst (λ (k : Key). is_before (keys_with heap q e i) k ≡ false) (sym (changed_key e p np)) (subst (λ (k : Key). is_before k (key_at heap p) ≡ false) (sym (changed_key e i ni)) (order p i il lo hi));
    around = λ p i il lo hi plo phi.
        subst (λ (k : Key). is_before (keys_with heap q e i) k ≡ false) (sym (changed_key e p (omega arith))) (subst (λ (k : Key). is_before k (key_at heap p) ≡ false) (sym (changed_key e i (omega arith)))
        (not_before_trans (key_at heap p) (key_at heap q) (key_at heap i) (order p q old_place plo phi) (order q i il lo hi)));
  }

  pub changed_index : (e : Entry) → e ≡ record { key = v; slot = slot } → IsIndexWith (set keys slot (Some v)) heap places q e
  changed_index e is = placed keys heap heap places x slot q v e is old_within old_place (omega arith) (λ i il ne. refl) (λ i il ne. il) own_only others_apart

  pub changed_hole : (e : Entry) → e ≡ record { key = v; slot = slot } → IsHole heap places q e
  changed_hole e is = record {
    keys = set keys slot (Some v);
    index = changed_index e is;
    within = old_place;
    but = changed_but e;
  }

-- a free slot gets a key
module _ (keys : List (Option Key)) (heap : List Entry) (places : List ℕ) (x : IsIndex keys heap places) (slot : ℕ) (v : Key) (e : Entry) (is : e ≡ record { key = v; slot = slot }) (within : slot < length keys) (free : slice_index_or keys slot None ≡ None) where
  pushed_length : length (heap ++ e ∷ []) ≡ length heap + 1
  pushed_length = length-append heap (e ∷ [])

  pushed_entry : (i : ℕ) → i < length heap → entry_at (heap ++ e ∷ []) i ≡ entry_at heap i
  pushed_entry i il = get_or-append heap (e ∷ []) nobody i il

  free_slot : (i : ℕ) → i < length heap → (entry_at heap i).slot ≢ slot
  free_slot i il h = let taken : slice_index_or keys slot None ≡ Some (key_at heap i) = ap (λ (s : ℕ). slice_index_or keys s None) (sym h) ∙ (x.entry i il).0 in cc

  pub inserted_index : IsIndexWith (set keys slot (Some v)) (heap ++ e ∷ []) places (length heap) e
  inserted_index = placed keys heap (heap ++ e ∷ []) places x slot (length heap) v e is within (omega (arith, pushed_length)) (omega (arith, pushed_length)) (λ i il ne. pushed_entry i il) (λ i il ne. omega (arith, il, ne, pushed_length)) (λ i il ne. free_slot i il)
      (λ s k ne h. let p = (x.place s k h).0 in omega (arith, p))

  inserted_key : (i : ℕ) → i < length heap → keys_with (heap ++ e ∷ []) (length heap) e i ≡ key_at heap i
  inserted_key i il = ap (λ (n : Entry). n.key) (get_or-set_other (heap ++ e ∷ []) (length heap) i e nobody (omega arith) ∙ pushed_entry i il)

  pub inserted_hole : IsHeap (key_at heap) (length heap) → IsHole (heap ++ e ∷ []) places (length heap) e
  inserted_hole order = record {
    keys = set keys slot (Some v);
    index = inserted_index;
    within = omega (arith, pushed_length);
    but = record {
      others = λ p i il lo hi np ni.
          subst (λ (k : Key). is_before (keys_with (heap ++ e ∷ []) (length heap) e i) k ≡ false) (sym (inserted_key p (omega (arith, pushed_length))))
          (subst (λ (k : Key). is_before k (key_at heap p) ≡ false) (sym (inserted_key i (omega (arith, pushed_length)))) (order p i (omega (arith, pushed_length)) lo hi));
      around = λ p i il lo hi plo phi. absurd (omega (arith, il, lo, pushed_length));
    };
  }

  pub inserted_above : IsAboveChildren (keys_with (heap ++ e ∷ []) (length heap) e) (length (heap ++ e ∷ [])) (length heap)
  inserted_above = λ i il lo hi. absurd (omega (arith, il, lo, pushed_length))

-- the first entry gives way to that of a free slot
module _ (keys : List (Option Key)) (heap : List Entry) (places : List ℕ) (x : IsIndex keys heap places) (some : 0 < length heap) (first : Entry) (is : first ≡ entry_at heap 0) (slot : ℕ) (v : Key) (e : Entry) (own : e ≡ record { key = v; slot = slot }) (within : slot < length keys)
    (free : slice_index_or keys slot None ≡ None) where
  abbrev left : List (Option Key)
  left = set keys first.slot None

  abbrev out : List ℕ
  out = set places first.slot NOWHERE

  of_first : (slice_index_or keys first.slot None ≡ Some first.key) × (slice_index places first.slot ≡ 0)
  of_first = subst (λ (n : Entry). (slice_index_or keys n.slot None ≡ Some n.key) × (slice_index places n.slot ≡ 0)) (sym is) (x.entry 0 some)

  first_within : first.slot < length places
  first_within = omega (arith, x.slots, some_within keys first.slot first.key of_first.0)

  not_first : (i : ℕ) → i < length heap → i ≢ 0 → (entry_at heap i).slot ≢ first.slot
  not_first i il ne h = ne (sym (x.entry i il).1 ∙ ap (slice_index places) h ∙ of_first.1)

  left_place : (s : ℕ) (k : Key) → slice_index_or left s None ≡ Some k → (s ≢ first.slot) × (slice_index_or keys s None ≡ Some k)
  left_place s k h = elim (cases_eq s first.slot) [
    | inl q ↦ let none : slice_index_or left s None ≡ None = ap (λ (j : ℕ). slice_index_or left j None) q ∙ get_or-set_same keys first.slot None None (some_within keys first.slot first.key of_first.0) in cc
    | inr ne ↦ (ne, sym (get_or-set_other keys first.slot s None None ne) ∙ h)
  ]

  away : (s : ℕ) (k : Key) → slice_index_or left s None ≡ Some k → slice_index places s ≢ 0
  away s k h z = let had = left_place s k h in had.0 (ap (λ (n : Entry). n.slot) (sym (x.place s k had.1).1 ∙ ap (entry_at heap) z ∙ sym is))

  slot_apart : (i : ℕ) → i < length heap → (entry_at heap i).slot ≢ slot
  slot_apart i il h = let taken : slice_index_or keys slot None ≡ Some (key_at heap i) = ap (λ (s : ℕ). slice_index_or keys s None) (sym h) ∙ (x.entry i il).0 in cc

  -- all entries but the first
  rest_place : (s : ℕ) → s ≢ slot → slice_index (set out slot 0) s ≡ slice_index out s
  rest_place s ne = get_or-set_other out slot s 0 0 ne

  -- the entry of a slot is at index 0, and those of the others where they were
  replaced_place : (s : ℕ) (k : Key) → slice_index_or (set left slot (Some v)) s None ≡ Some k
      → (slice_index (set out slot 0) s < length (set heap 0 e)) × (entry_at (set heap 0 e) (slice_index (set out slot 0) s) ≡ record { key = k; slot = s })
  replaced_place s k h = elim (cases_eq s slot) [
    | inl q ↦
        let to : slice_index (set out slot 0) s ≡ 0 = ap (slice_index (set out slot 0)) q ∙ get_or-set_same out slot 0 0 (omega (arith, x.slots, length-set places first.slot NOWHERE)) in
        let kv : v ≡ k = some_same v k (sym (get_or-set_same left slot (Some v) None (omega (arith, length-set keys first.slot None))) ∙ ap (λ (j : ℕ). slice_index_or (set left slot (Some v)) j None) (sym q) ∙ h) in
        (omega (arith, to, some, length-set heap 0 e), ap (entry_at (set heap 0 e)) to ∙ get_or-set_same heap 0 e nobody some ∙ own ∙ ap (λ (j : Key). record { key = j; slot = slot }) kv ∙ ap (λ (t : ℕ). record { key = k; slot = t }) (sym q))
    | inr ne ↦
        let rest : slice_index_or left s None ≡ Some k = sym (get_or-set_other left slot s (Some v) None ne) ∙ h in
        let had = left_place s k rest in
        let p = x.place s k had.1 in
        let to : slice_index (set out slot 0) s ≡ slice_index places s = rest_place s ne ∙ get_or-set_other places first.slot s NOWHERE 0 had.0 in
        (omega (arith, to, p.0, length-set heap 0 e), ap (entry_at (set heap 0 e)) to ∙ get_or-set_other heap 0 (slice_index places s) e nobody (away s k rest) ∙ p.1)
  ]

  replaced_entry : (i : ℕ) → i < length (set heap 0 e)
      → (slice_index_or (set left slot (Some v)) (entry_at (set heap 0 e) i).slot None ≡ Some (key_at (set heap 0 e) i)) × (slice_index (set out slot 0) (entry_at (set heap 0 e) i).slot ≡ i)
  replaced_entry i il = elim (cases_eq i 0) [
    | inl z ↦
        subst (λ (n : Entry). (slice_index_or (set left slot (Some v)) n.slot None ≡ Some n.key) × (slice_index (set out slot 0) n.slot ≡ i)) (sym (ap (entry_at (set heap 0 e)) z ∙ get_or-set_same heap 0 e nobody some ∙ own))
        (get_or-set_same left slot (Some v) None (omega (arith, within, length-set keys first.slot None)), get_or-set_same out slot 0 0 (omega (arith, within, x.slots, length-set places first.slot NOWHERE)) ∙ sym z)
    | inr ne ↦
        let low : i < length heap = omega (arith, il, length-set heap 0 e) in
        let p = x.entry i low in
        let nf = not_first i low ne in
        let ns = slot_apart i low in
        subst (λ (n : Entry). (slice_index_or (set left slot (Some v)) n.slot None ≡ Some n.key) × (slice_index (set out slot 0) n.slot ≡ i)) (sym (get_or-set_other heap 0 i e nobody ne))
        (get_or-set_other left slot (entry_at heap i).slot (Some v) None ns ∙ get_or-set_other keys first.slot (entry_at heap i).slot None None nf ∙ p.0, rest_place (entry_at heap i).slot ns ∙ get_or-set_other places first.slot (entry_at heap i).slot NOWHERE 0 nf ∙ p.1)
  ]

  replaced_free : (s : ℕ) → s < length (set out slot 0) → slice_index_or (set left slot (Some v)) s None ≡ None → slice_index (set out slot 0) s ≡ NOWHERE
  replaced_free s l h = elim (cases_eq s slot) [
    | inl q ↦ let taken : Some v ≡ None = sym (get_or-set_same left slot (Some v) None (omega (arith, within, length-set keys first.slot None))) ∙ ap (λ (j : ℕ). slice_index_or (set left slot (Some v)) j None) (sym q) ∙ h in absurd (cc)
    | inr ne ↦ rest_place s ne ∙ elim (cases_eq s first.slot) [
      | inl q ↦ ap (slice_index out) q ∙ get_or-set_same places first.slot NOWHERE 0 first_within
      | inr nf ↦
          get_or-set_other places first.slot s NOWHERE 0 nf
          ∙ x.free s (omega (arith, l, length-set out slot 0, length-set places first.slot NOWHERE)) (sym (get_or-set_other keys first.slot s None None nf) ∙ sym (get_or-set_other left slot s (Some v) None ne) ∙ h)
    ]
  ]

  pub replaced_index : IsIndexWith (set left slot (Some v)) heap out 0 e
  replaced_index = subst (λ (n : ℕ). IsIndex (set left slot (Some v)) (set heap 0 e) (set out n 0)) (sym (ap (λ (n : Entry). n.slot) own)) (record {
    slots = length-set left slot (Some v) ∙ length-set keys first.slot None ∙ x.slots ∙ sym (length-set out slot 0 ∙ length-set places first.slot NOWHERE);
    place = replaced_place;
    entry = replaced_entry;
    free = replaced_free;
  })

  replaced_key : (i : ℕ) → i ≢ 0 → keys_with heap 0 e i ≡ key_at heap i
  replaced_key i ne = ap (λ (n : Entry). n.key) (get_or-set_other heap 0 i e nobody ne)

  pub replaced_hole : IsHeap (key_at heap) (length heap) → IsHole heap out 0 e
  replaced_hole order = record {
    keys = set left slot (Some v);
    index = replaced_index;
    within = some;
    but = record {
      others = λ p i il lo hi np ni. subst (λ (k : Key). is_before (keys_with heap 0 e i) k ≡ false) (sym (replaced_key p np)) (subst (λ (k : Key). is_before k (key_at heap p) ≡ false) (sym (replaced_key i ni)) (order p i il lo hi));
      around = λ p i il lo hi plo phi. absurd (omega arith);
    };
  }

-- there are no more entries than slots
abbrev slots_of : List Entry → List ℕ
slots_of heap = map (λ (n : Entry). n.slot) heap

below_from : (xs : List ℕ) (n : ℕ) → ((i : ℕ) → i < length xs → slice_index xs i < n) → (q : ℕ) → list_any (eqb q) xs ≡ true → q < n
below_from [] n all q h = absurd (false≢true h)
below_from (x ∷ xs) n all q h = elim (eqb_tells q x) [
  | inl e ↦ let first = all 0 (omega arith) in omega (arith, e.1, first)
  | inr e ↦ below_from xs n (λ i il. all (suc i) (omega arith)) q (sym (ap (λ (b : Bool). b || list_any (eqb q) xs) e.0) ∙ h)
]

module _ (keys : List (Option Key)) (heap : List Entry) (places : List ℕ) (x : IsIndex keys heap places) where
  size : length (slots_of heap) ≡ length heap
  size = length-map heap (λ (n : Entry). n.slot)

  read : (i d : ℕ) → i < length heap → get_or (slots_of heap) i d ≡ (entry_at heap i).slot
  read i d il = get_or-map (λ (n : Entry). n.slot) heap i nobody d il

  slot_below : (i : ℕ) → i < length heap → (entry_at heap i).slot < length keys
  slot_below i il = some_within keys (entry_at heap i).slot (key_at heap i) (x.entry i il).0

  slots_apart : AllPairs (λ (a b : ℕ). a ≢ b) (slots_of heap)
  slots_apart = λ i j d ij jl h.
      let il : i < length heap = omega (arith, size) in
      let jl' : j < length heap = omega (arith, size) in
      let one : (entry_at heap i).slot ≡ (entry_at heap j).slot = sym (read i d il) ∙ h ∙ read j d jl' in
      absurd (omega (arith, ij, sym (x.entry i il).1 ∙ ap (slice_index places) one ∙ (x.entry j jl').1))

  pub fits : length heap ≤ length keys
  fits =
      let most = length-le_from_distinct_below (slots_of heap) (length keys) (IsDistinct-from_AllPairs Decides-eqb (slots_of heap) slots_apart)
      (below_from (slots_of heap) (length keys) (λ i il. let il' : i < length heap = omega (arith, size) in omega (arith, read i 0 il', slot_below i il'))) in
      omega (arith, most, size)

  -- a slot that is free leaves space for one more entry
  pub fits_more : (slot : ℕ) → slot < length keys → slice_index_or keys slot None ≡ None → length heap + 1 ≤ length keys
  fits_more slot within free =
      let more = slots_of heap ++ slot ∷ [] in
      let long : length (slots_of heap ++ slot ∷ []) ≡ length heap + 1 = length-append (slots_of heap) (slot ∷ []) ∙ ap (λ (n : ℕ). n + 1) size in
      let apart : AllPairs (λ (a b : ℕ). a ≢ b) (slots_of heap ++ slot ∷ []) = all_pairs_push (λ (a b : ℕ). a ≢ b) (slots_of heap) slot slots_apart
      (λ k d kl h. let kl' : k < length heap = omega (arith, size) in
      let taken : slice_index_or keys slot None ≡ Some (key_at heap k) = ap (λ (s : ℕ). slice_index_or keys s None) (sym h ∙ read k d kl') ∙ (x.entry k kl').0 in cc) in
      let most = length-le_from_distinct_below (slots_of heap ++ slot ∷ []) (length keys) (IsDistinct-from_AllPairs Decides-eqb (slots_of heap ++ slot ∷ []) apart)
      (below_from (slots_of heap ++ slot ∷ []) (length keys)
      (λ i il. elim (cases_lt i (length heap)) [
        | inl low ↦ let at : slice_index (slots_of heap ++ slot ∷ []) i ≡ slice_index (slots_of heap) i = get_or-append (slots_of heap) (slot ∷ []) 0 i (omega (arith, size)) in
            omega (arith, at, read i 0 low, slot_below i low)
        | inr high ↦ let at : slice_index (slots_of heap ++ slot ∷ []) i ≡ slot = get_or_push (slots_of heap) slot 0 i (omega (arith, long, size, il)) in omega (arith, at)
      ])) in
      omega (arith, most, long)

-- a taken slot is freed, and the last entry leaves its index
module _ (keys : List (Option Key)) (init heap : List Entry) (places : List ℕ) (last : Entry) (parts : heap ≡ init ++ last ∷ []) (x : IsIndex keys heap places) (order : IsHeap (key_at heap) (length heap)) (slot q : ℕ) (at : q ≡ slice_index places slot) (old : Key) (was : slice_index_or keys slot None ≡ Some old) where
  pub heap_length : length heap ≡ length init + 1
  heap_length = ap (λ (l : List Entry). length l) parts ∙ length-append init (last ∷ [])

  at_last : entry_at heap (length init) ≡ last
  at_last = ap (λ (l : List Entry). entry_at l (length init)) parts ∙ get_or_push init last nobody (length init) refl

  at_init : (i : ℕ) → i < length init → entry_at heap i ≡ entry_at init i
  at_init i il = ap (λ (l : List Entry). entry_at l i) parts ∙ get_or-append init (last ∷ []) nobody i il

  key_init : (i : ℕ) → i < length init → key_at heap i ≡ key_at init i
  key_init i il = ap (λ (n : Entry). n.key) (at_init i il)

  pub gone_place : q < length heap
  gone_place = omega (arith, (x.place slot old was).0)

  gone_entry : entry_at heap q ≡ record { key = old; slot = slot }
  gone_entry = ap (entry_at heap) at ∙ (x.place slot old was).1

  not_gone : (i : ℕ) → i < length heap → i ≢ q → (entry_at heap i).slot ≢ slot
  not_gone i il ne h = ne (sym (x.entry i il).1 ∙ ap (slice_index places) h ∙ sym at)

  left_key : (s : ℕ) (k : Key) → slice_index_or (set keys slot None) s None ≡ Some k → (s ≢ slot) × (slice_index_or keys s None ≡ Some k)
  left_key s k h = elim (cases_eq s slot) [
    | inl e ↦ let none : slice_index_or (set keys slot None) s None ≡ None = ap (λ (j : ℕ). slice_index_or (set keys slot None) j None) e ∙ get_or-set_same keys slot None None (some_within keys slot old was) in cc
    | inr ne ↦ (ne, sym (get_or-set_other keys slot s None None ne) ∙ h)
  ]

  left_apart : (s : ℕ) (k : Key) → s ≢ slot → slice_index_or keys s None ≡ Some k → slice_index places s ≢ q
  left_apart s k ne h z = ne (ap (λ (n : Entry). n.slot) (sym (x.place s k h).1 ∙ ap (entry_at heap) z ∙ gone_entry))

  -- the indices, once the slot has none
  abbrev gone : List ℕ
  gone = set places slot NOWHERE

  slot_inside : slot < length places
  slot_inside = omega (arith, x.slots, some_within keys slot old was)

  gone_length : length gone ≡ length keys
  gone_length = length-set places slot NOWHERE ∙ sym x.slots

  gone_own : slice_index gone slot ≡ NOWHERE
  gone_own = get_or-set_same places slot NOWHERE 0 slot_inside

  gone_other : (s : ℕ) → s ≢ slot → slice_index gone s ≡ slice_index places s
  gone_other s ne = get_or-set_other places slot s NOWHERE 0 ne

  gone_free : (s : ℕ) → s < length gone → slice_index_or (set keys slot None) s None ≡ None → slice_index gone s ≡ NOWHERE
  gone_free s l h = elim (cases_eq s slot) [
    | inl e ↦ ap (slice_index gone) e ∙ gone_own
    | inr ne ↦ gone_other s ne ∙ x.free s (omega (arith, l, gone_length, x.slots)) (sym (get_or-set_other keys slot s None None ne) ∙ h)
  ]

  -- if the slot's entry was the last, nothing else moves
  pub removed_last : q ≡ length init → IsIndex (set keys slot None) init gone
  removed_last end = record {
    slots = length-set keys slot None ∙ sym gone_length;
    place = λ s k h.
        let had = left_key s k h in
        let p = x.place s k had.1 in
        let apart = left_apart s k had.0 had.1 in
        let to : slice_index gone s ≡ slice_index places s = gone_other s had.0 in
        let low : slice_index places s < length init = omega (arith, p.0, apart, end, heap_length) in
        (omega (arith, to, low), ap (entry_at init) to ∙ sym (at_init (slice_index places s) low) ∙ p.1);
    entry = λ i il.
        let p = x.entry i (omega (arith, heap_length)) in
        let ns = not_gone i (omega (arith, heap_length)) (omega (arith, end)) in
        subst (λ (n : Entry). (slice_index_or (set keys slot None) n.slot None ≡ Some n.key) × (slice_index gone n.slot ≡ i)) (at_init i il)
        (get_or-set_other keys slot (entry_at heap i).slot None None ns ∙ p.0, gone_other (entry_at heap i).slot ns ∙ p.1);
    free = gone_free;
  }

  pub removed_order : IsHeap (key_at init) (length init)
  removed_order = λ p i il lo hi.
      subst (λ (k : Key). is_before (key_at init i) k ≡ false) (key_init p (omega arith)) (subst (λ (k : Key). is_before k (key_at heap p) ≡ false) (key_init i il) (order p i (omega (arith, heap_length)) lo hi))

  module _ (inside : q < length init) where
    of_last : (slice_index_or keys last.slot None ≡ Some last.key) × (slice_index places last.slot ≡ length init)
    of_last = subst (λ (n : Entry). (slice_index_or keys n.slot None ≡ Some n.key) × (slice_index places n.slot ≡ length init)) at_last (x.entry (length init) (omega (arith, heap_length)))

    last_other : last.slot ≢ slot
    last_other h = absurd (omega (arith, inside, at, sym of_last.1 ∙ ap (slice_index places) h))

    last_place : slice_index (set gone last.slot q) last.slot ≡ q
    last_place = get_or-set_same gone last.slot q 0 (omega (arith, gone_length, some_within keys last.slot last.key of_last.0))

    put_place : (s : ℕ) → s ≢ slot → s ≢ last.slot → slice_index (set gone last.slot q) s ≡ slice_index places s
    put_place s ns ne = get_or-set_other gone last.slot s q 0 ne ∙ gone_other s ns

    put_own : entry_at (set init q last) q ≡ last
    put_own = get_or-set_same init q last nobody inside

    put_other : (i : ℕ) → i < length init → i ≢ q → entry_at (set init q last) i ≡ entry_at heap i
    put_other i il ne = get_or-set_other init q i last nobody ne ∙ sym (at_init i il)

    put_key : (i : ℕ) → i < length init → i ≢ q → keys_with init q last i ≡ key_at heap i
    put_key i il ne = ap (λ (n : Entry). n.key) (put_other i il ne)

    removed_place : (s : ℕ) (k : Key) → slice_index_or (set keys slot None) s None ≡ Some k
        → (slice_index (set gone last.slot q) s < length (set init q last)) × (entry_at (set init q last) (slice_index (set gone last.slot q) s) ≡ record { key = k; slot = s })
    removed_place s k h =
        let had = left_key s k h in
        let was' = x.place s k had.1 in
        elim (cases_eq s last.slot) [
          | inl e ↦
              let to : slice_index (set gone last.slot q) s ≡ q = ap (slice_index (set gone last.slot q)) e ∙ last_place in
              let from : slice_index places s ≡ length init = ap (slice_index places) e ∙ of_last.1 in
              (omega (arith, to, inside, length-set init q last), ap (entry_at (set init q last)) to ∙ put_own ∙ sym at_last ∙ ap (entry_at heap) (sym from) ∙ was'.1)
          | inr ne ↦
              let to : slice_index (set gone last.slot q) s ≡ slice_index places s = put_place s had.0 ne in
              let high : slice_index places s ≢ length init = λ z. ne (ap (λ (n : Entry). n.slot) (sym was'.1 ∙ ap (entry_at heap) z ∙ at_last)) in
              let low : slice_index places s < length init = omega (arith, was'.0, high, heap_length) in
              (omega (arith, to, low, length-set init q last), ap (entry_at (set init q last)) to ∙ put_other (slice_index places s) low (left_apart s k had.0 had.1) ∙ was'.1)
        ]

    removed_entry : (i : ℕ) → i < length (set init q last)
        → (slice_index_or (set keys slot None) (entry_at (set init q last) i).slot None ≡ Some (key_at (set init q last) i)) × (slice_index (set gone last.slot q) (entry_at (set init q last) i).slot ≡ i)
    removed_entry i il = elim (cases_eq i q) [
      | inl e ↦
          subst (λ (n : Entry). (slice_index_or (set keys slot None) n.slot None ≡ Some n.key) × (slice_index (set gone last.slot q) n.slot ≡ i)) (sym (ap (entry_at (set init q last)) e ∙ put_own))
          (get_or-set_other keys slot last.slot None None last_other ∙ of_last.0, last_place ∙ sym e)
      | inr ne ↦
          let low : i < length init = omega (arith, il, length-set init q last) in
          let p = x.entry i (omega (arith, low, heap_length)) in
          let ns = not_gone i (omega (arith, low, heap_length)) ne in
          let nl : (entry_at heap i).slot ≢ last.slot = λ h. absurd (omega (arith, low, sym p.1 ∙ ap (slice_index places) h ∙ of_last.1)) in
          subst (λ (n : Entry). (slice_index_or (set keys slot None) n.slot None ≡ Some n.key) × (slice_index (set gone last.slot q) n.slot ≡ i)) (sym (put_other i low ne))
          (get_or-set_other keys slot (entry_at heap i).slot None None ns ∙ p.0, put_place (entry_at heap i).slot ns nl ∙ p.1)
    ]

    removed_free : (s : ℕ) → s < length (set gone last.slot q) → slice_index_or (set keys slot None) s None ≡ None → slice_index (set gone last.slot q) s ≡ NOWHERE
    removed_free s l h =
        let nl : s ≢ last.slot = λ z. let some : Some last.key ≡ None = sym of_last.0 ∙ sym (get_or-set_other keys slot last.slot None None last_other) ∙ ap (λ (t : ℕ). slice_index_or (set keys slot None) t None) (sym z) ∙ h in cc in
        get_or-set_other gone last.slot s q 0 nl ∙ gone_free s (omega (arith, l, length-set gone last.slot q)) h

    pub removed_index : IsIndexWith (set keys slot None) init gone q last
    removed_index = record {
      slots = length-set keys slot None ∙ sym gone_length ∙ sym (length-set gone last.slot q);
      place = removed_place;
      entry = removed_entry;
      free = removed_free;
    }

    pub removed_hole : IsHole init gone q last
    removed_hole = record {
      keys = set keys slot None;
      index = removed_index;
      within = inside;
      but = record {
        others = λ p i il lo hi np ni.
            subst (λ (k : Key). is_before (keys_with init q last i) k ≡ false) (sym (put_key p (omega arith) np)) (subst (λ (k : Key). is_before k (key_at heap p) ≡ false) (sym (put_key i il ni)) (order p i (omega (arith, heap_length)) lo hi));
        around = λ p i il lo hi plo phi.
            subst (λ (k : Key). is_before (keys_with init q last i) k ≡ false) (sym (put_key p (omega arith) (omega arith))) (subst (λ (k : Key). is_before k (key_at heap p) ≡ false) (sym (put_key i il (omega arith)))
            (not_before_trans (key_at heap p) (key_at heap q) (key_at heap i) (order p q gone_place plo phi) (order q i (omega (arith, heap_length)) lo hi)));
      };
    }
