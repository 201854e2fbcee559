-- An entry that is put at a hole, or moves on to another one.
use Rattle.std.proofs.Common.{◌≡◌, ◌≢◌, ℕ, ◌+◌, ◌*◌, ◌<◌, ◌≤◌, false, true, List, length, sym, ap, subst, ◌∙◌, arith, inl, inr, set, get_or-set_same, get_or-set_other, length-set, Option, None, Some}
use Rattle.std.specs.Prelude.{slice_index, slice_index_or}
use Rattle.std.proofs.Math.ListN.{get_or-eq_default}
use Rattle.std.proofs.lemmas.List.{get_or_default}
use Rattle.std.proofs.lemmas.Bool.{cases_eq, cases_lt}
use Rattle.logical_clock.specs.declared.key.Key.{Key}
use Rattle.logical_clock.specs.Order.{is_before}
use Rattle.key_index.specs.declared.heap.Entry.{Entry}
use Rattle.key_index.specs.declared.heap.TheConstants.{NOWHERE}
use Rattle.key_index.specs.Heap.{IsAboveChildren, IsBelowParent, IsFilled, IsHeap, IsHeapBut, IsHole, IsIndexWith, entry_at, key_at, keys_with, nobody}
use Rattle.key_index.proofs.Orders.{Turned, around_above, but_heap, down_others, up_above, up_others}

pub some_within : (keys : List (Option Key)) (slot : ℕ) (k : Key) → slice_index_or keys slot None ≡ Some k → slot < length keys
some_within keys slot k h = elim (cases_lt slot (length keys)) [
  | inl l ↦ l
  | inr l ↦ let out : slice_index_or keys slot None ≡ None = get_or-eq_default keys None l in cc
]

some_or_free : (keys : List (Option Key)) (slot : ℕ) (k : Key) → slice_index_or keys slot None ≡ Some k → slice_index_or keys slot None ≡ None → ⊥
some_or_free keys slot k h e = let both : Some k ≡ None = sym h ∙ e in absurd (cc)

pub slot_within : (heap : List Entry) (places : List ℕ) (q : ℕ) (e : Entry) → IsHole heap places q e → e.slot < length places
slot_within heap places q e x =
    let at : entry_at (set heap q e) q ≡ e = get_or-set_same heap q e nobody x.within in
    let own = x.index.entry q (omega (arith, length-set heap q e, x.within)) in
    let has : slice_index_or x.keys e.slot None ≡ Some e.key = subst (λ (n : Entry). slice_index_or x.keys n.slot None ≡ Some n.key) at own.0 in
    omega (arith, some_within x.keys e.slot e.key has, x.index.slots, length-set places e.slot q)

-- the entry at index p moves into the hole at q, so that the hole is at p
module _ (heap : List Entry) (places : List ℕ) (q p : ℕ) (e m : Entry) (is : m ≡ slice_index_or heap p m) (ql : q < length heap) (pl : p < length heap) (apart : p ≢ q) where
  read : m ≡ entry_at heap p
  read = is ∙ get_or_default heap p m nobody pl

  hole_q : entry_at (set heap q e) q ≡ e
  hole_q = get_or-set_same heap q e nobody ql

  hole_p : entry_at (set heap q e) p ≡ m
  hole_p = get_or-set_other heap q p e nobody apart ∙ sym read

  key_q : keys_with heap q e q ≡ e.key
  key_q = ap (λ (n : Entry). n.key) hole_q

  key_past : (i : ℕ) → i ≢ q → keys_with heap q e i ≡ key_at heap i
  key_past i ne = ap (λ (n : Entry). n.key) (get_or-set_other heap q i e nobody ne)

  next_q : entry_at (set (set heap q m) p e) q ≡ m
  next_q = get_or-set_other (set heap q m) p q e nobody (λ h. apart (sym h)) ∙ get_or-set_same heap q m nobody ql

  next_p : entry_at (set (set heap q m) p e) p ≡ e
  next_p = get_or-set_same (set heap q m) p e nobody (omega (arith, length-set heap q m))

  next_others : (i : ℕ) → i ≢ q → i ≢ p → entry_at (set (set heap q m) p e) i ≡ entry_at (set heap q e) i
  next_others i nq np = get_or-set_other (set heap q m) p i e nobody np ∙ get_or-set_other heap q i m nobody nq ∙ sym (get_or-set_other heap q i e nobody nq)

  next_length : length (set (set heap q m) p e) ≡ length (set heap q e)
  next_length = length-set (set heap q m) p e ∙ length-set heap q m ∙ sym (length-set heap q e)

  pub moved_keys : Turned (keys_with heap q e) (keys_with (set heap q m) p e) q p
  moved_keys = record {
    at_a = ap (λ (n : Entry). n.key) (next_q ∙ sym hole_p);
    at_b = ap (λ (n : Entry). n.key) (next_p ∙ sym hole_q);
    others = λ i nq np. ap (λ (n : Entry). n.key) (next_others i nq np);
  }

  module _ (keys : List (Option Key)) (x : IsIndexWith keys heap places q e) where
    of_e : (slice_index_or keys e.slot None ≡ Some e.key) × (slice_index (set places e.slot q) e.slot ≡ q)
    of_e = subst (λ (n : Entry). (slice_index_or keys n.slot None ≡ Some n.key) × (slice_index (set places e.slot q) n.slot ≡ q)) hole_q (x.entry q (omega (arith, length-set heap q e)))

    of_m : (slice_index_or keys m.slot None ≡ Some m.key) × (slice_index (set places e.slot q) m.slot ≡ p)
    of_m = subst (λ (n : Entry). (slice_index_or keys n.slot None ≡ Some n.key) × (slice_index (set places e.slot q) n.slot ≡ p)) hole_p (x.entry p (omega (arith, length-set heap q e)))

    slots_apart : e.slot ≢ m.slot
    slots_apart h = apart (sym of_m.1 ∙ ap (slice_index (set places e.slot q)) (sym h) ∙ of_e.1)

    size : length keys ≡ length places
    size = x.slots ∙ length-set places e.slot q

    place_m : slice_index (set (set places m.slot q) e.slot p) m.slot ≡ q
    place_m = get_or-set_other (set places m.slot q) e.slot m.slot p 0 (λ h. slots_apart (sym h)) ∙ get_or-set_same places m.slot q 0 (omega (arith, some_within keys m.slot m.key of_m.0, size))

    place_e : slice_index (set (set places m.slot q) e.slot p) e.slot ≡ p
    place_e = get_or-set_same (set places m.slot q) e.slot p 0 (omega (arith, some_within keys e.slot e.key of_e.0, size, length-set places m.slot q))

    place_others : (s : ℕ) → s ≢ m.slot → s ≢ e.slot → slice_index (set (set places m.slot q) e.slot p) s ≡ slice_index (set places e.slot q) s
    place_others s nm ne = get_or-set_other (set places m.slot q) e.slot s p 0 ne ∙ get_or-set_other places m.slot s q 0 nm ∙ sym (get_or-set_other places e.slot s q 0 ne)

    moved_place : (s : ℕ) (k : Key) → slice_index_or keys s None ≡ Some k
        → (slice_index (set (set places m.slot q) e.slot p) s < length heap) × (entry_at (set (set heap q m) p e) (slice_index (set (set places m.slot q) e.slot p) s) ≡ record { key = k; slot = s })
    moved_place s k h =
        let was = x.place s k h in
        elim (cases_eq s e.slot) [
          | inl se ↦
              let at : slice_index (set (set places m.slot q) e.slot p) s ≡ p = ap (slice_index (set (set places m.slot q) e.slot p)) se ∙ place_e in
              let old : slice_index (set places e.slot q) s ≡ q = ap (slice_index (set places e.slot q)) se ∙ of_e.1 in
              (omega arith, ap (entry_at (set (set heap q m) p e)) at ∙ next_p ∙ sym hole_q ∙ ap (entry_at (set heap q e)) (sym old) ∙ was.1)
          | inr ne ↦ elim (cases_eq s m.slot) [
            | inl sm ↦
                let at : slice_index (set (set places m.slot q) e.slot p) s ≡ q = ap (slice_index (set (set places m.slot q) e.slot p)) sm ∙ place_m in
                let old : slice_index (set places e.slot q) s ≡ p = ap (slice_index (set places e.slot q)) sm ∙ of_m.1 in
                (omega arith, ap (entry_at (set (set heap q m) p e)) at ∙ next_q ∙ sym hole_p ∙ ap (entry_at (set heap q e)) (sym old) ∙ was.1)
            | inr nm ↦
                let at : slice_index (set (set places m.slot q) e.slot p) s ≡ slice_index (set places e.slot q) s = place_others s nm ne in
                let nq : slice_index (set places e.slot q) s ≢ q = λ z. ne (ap (λ (n : Entry). n.slot) (sym was.1 ∙ ap (entry_at (set heap q e)) z ∙ hole_q)) in
                let np : slice_index (set places e.slot q) s ≢ p = λ z. nm (ap (λ (n : Entry). n.slot) (sym was.1 ∙ ap (entry_at (set heap q e)) z ∙ hole_p)) in
                (omega (arith, was.0, length-set heap q e), ap (entry_at (set (set heap q m) p e)) at ∙ next_others (slice_index (set places e.slot q) s) nq np ∙ was.1)
          ]
        ]

    moved_entry : (i : ℕ) → i < length heap
        → (slice_index_or keys (entry_at (set (set heap q m) p e) i).slot None ≡ Some (key_at (set (set heap q m) p e) i)) × (slice_index (set (set places m.slot q) e.slot p) (entry_at (set (set heap q m) p e) i).slot ≡ i)
    moved_entry i il = elim (cases_eq i q) [
      | inl iq ↦ subst (λ (n : Entry). (slice_index_or keys n.slot None ≡ Some n.key) × (slice_index (set (set places m.slot q) e.slot p) n.slot ≡ i)) (sym (ap (entry_at (set (set heap q m) p e)) iq ∙ next_q)) (of_m.0, place_m ∙ sym iq)
      | inr nq ↦ elim (cases_eq i p) [
        | inl ip ↦ subst (λ (n : Entry). (slice_index_or keys n.slot None ≡ Some n.key) × (slice_index (set (set places m.slot q) e.slot p) n.slot ≡ i)) (sym (ap (entry_at (set (set heap q m) p e)) ip ∙ next_p)) (of_e.0, place_e ∙ sym ip)
        | inr np ↦
            let was = x.entry i (omega (arith, length-set heap q e)) in
            let nm : (entry_at (set heap q e) i).slot ≢ m.slot = λ z. np (sym was.1 ∙ ap (slice_index (set places e.slot q)) z ∙ of_m.1) in
            let ne : (entry_at (set heap q e) i).slot ≢ e.slot = λ z. nq (sym was.1 ∙ ap (slice_index (set places e.slot q)) z ∙ of_e.1) in
            subst (λ (n : Entry). (slice_index_or keys n.slot None ≡ Some n.key) × (slice_index (set (set places m.slot q) e.slot p) n.slot ≡ i)) (sym (next_others i nq np)) (was.0, place_others (entry_at (set heap q e) i).slot nm ne ∙ was.1)
      ]
    ]

    moved_free : (s : ℕ) → s < length (set (set places m.slot q) e.slot p) → slice_index_or keys s None ≡ None → slice_index (set (set places m.slot q) e.slot p) s ≡ NOWHERE
    moved_free s l h =
        let ne : s ≢ e.slot = λ z. some_or_free keys e.slot e.key of_e.0 (ap (λ (t : ℕ). slice_index_or keys t None) (sym z) ∙ h) in
        let nm : s ≢ m.slot = λ z. some_or_free keys m.slot m.key of_m.0 (ap (λ (t : ℕ). slice_index_or keys t None) (sym z) ∙ h) in
        place_others s nm ne ∙ x.free s (omega (arith, l, length-set (set places m.slot q) e.slot p, length-set places m.slot q, length-set places e.slot q)) h

    pub moved_index : IsIndexWith keys (set heap q m) (set places m.slot q) p e
    moved_index = record {
      slots = size ∙ sym (length-set (set places m.slot q) e.slot p ∙ length-set places m.slot q);
      place = λ s k h. let r = moved_place s k h in (omega (arith, r.0, next_length, length-set heap q e), r.1);
      entry = λ i il. moved_entry i (omega (arith, next_length, length-set heap q e));
      free = moved_free;
    }

  pub moved_slot : IsHole heap places q e → m.slot < length places
  moved_slot x = let own = of_m x.keys x.index in omega (arith, some_within x.keys m.slot m.key own.0, size x.keys x.index)

  -- the entry is filled in, if it is so after that move
  pub filled_on : (heap' : List Entry) (places' : List ℕ) → IsFilled (set heap q m) heap' (set places m.slot q) places' p e → IsFilled heap heap' places places' q e
  filled_on heap' places' f = record {
    index = λ keys x. f.index keys (moved_index keys x);
    order = f.order;
  }

  moved_hole : IsHole heap places q e → IsHeapBut (keys_with (set heap q m) p e) (length heap) p → IsHole (set heap q m) (set places m.slot q) p e
  moved_hole x but = record {
    keys = x.keys;
    index = moved_index x.keys x.index;
    within = omega (arith, length-set heap q m);
    but = subst (λ (n : ℕ). IsHeapBut (keys_with (set heap q m) p e) n p) (sym (length-set heap q m)) but;
  }

  -- up to the parent
  module _ (low : 2 * p + 1 ≤ q) (high : q ≤ 2 * p + 2) (x : IsHole heap places q e) (before : is_before e.key (key_at heap p) ≡ true) where
    before_up : is_before (keys_with heap q e q) (keys_with heap q e p) ≡ true
    before_up = subst (λ (k : Key). is_before k (keys_with heap q e p) ≡ true) (sym key_q) (subst (λ (k : Key). is_before e.key k ≡ true) (sym (key_past p apart)) before)

    pub up_hole : IsHole (set heap q m) (set places m.slot q) p e
    up_hole = moved_hole x (up_others _ _ (length heap) p q low high ql moved_keys x.but (around_above _ (length heap) p q low high x.but before_up) before_up)

    pub up_children : IsAboveChildren (keys_with (set heap q m) p e) (length (set heap q m)) p
    up_children = subst (λ (n : ℕ). IsAboveChildren (keys_with (set heap q m) p e) n p) (sym (length-set heap q m))
        (up_above _ _ (length heap) p q low high ql moved_keys x.but (around_above _ (length heap) p q low high x.but before_up) before_up)

  -- down to the child of least key
  pub down_hole : 2 * q + 1 ≤ p → p ≤ 2 * q + 2 → IsHole heap places q e → ((i : ℕ) → i < length heap → 2 * q + 1 ≤ i → i ≤ 2 * q + 2 → is_before (key_at heap i) (key_at heap p) ≡ false) → IsHole (set heap q m) (set places m.slot q) p e
  down_hole low high x least = moved_hole x (down_others _ _ (length heap) q p low high pl moved_keys x.but
      (λ i il lo hi. subst (λ (k : Key). is_before k (keys_with heap q e p) ≡ false) (sym (key_past i (omega arith))) (subst (λ (k : Key). is_before (key_at heap i) k ≡ false) (sym (key_past p apart)) (least i il lo hi))))

-- the entry is put at the hole
pub filled_at : (heap : List Entry) (places : List ℕ) (q : ℕ) (e : Entry) → IsHole heap places q e → IsAboveChildren (keys_with heap q e) (length heap) q → IsBelowParent (keys_with heap q e) q
    → IsFilled heap (set heap q e) places (set places e.slot q) q e
filled_at heap places q e x above below = record {
  index = λ keys x. x;
  order = subst (λ (n : ℕ). IsHeap (keys_with heap q e) n) (sym (length-set heap q e)) (but_heap _ (length heap) q x.but above below);
}
