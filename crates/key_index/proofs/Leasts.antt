-- Which slot has the least key, what one slot more keeps, and how an index shows the keys.
use Rattle.std.proofs.Common.{◌≡◌, Bool, ℕ, zero, suc, ◌+◌, ◌<◌, ◌≤◌, ◌^◌, false, List, [], ◌∷◌, ◌++◌, length, map, replicate, refl, sym, ap, subst, ◌∙◌, inl, inr, arith, Option, Some, None}
use Rattle.std.specs.Prelude.{◌==◌, slice_index, slice_index_or, IsSome}
use Rattle.std.proofs.Math.ListN.{get_or-append, get_or-eq_default}
use Rattle.std.proofs.lemmas.List.{ext_get_or, get_or_push, get_or-map, length-append, length-map}
use Rattle.std.proofs.lemmas.Bool.{cases_eq, cases_lt, false≢true}
use Rattle.logical_clock.specs.declared.key.Key.{Key}
use Rattle.logical_clock.specs.Order.{is_before}
use Rattle.key_index.specs.declared.heap.Entry.{Entry}
use Rattle.key_index.specs.declared.heap.TheConstants.{NOWHERE}
use Rattle.key_index.specs.Heap.{IsHeap, IsIndex, IsLeast, IsOrdered, entry_at, key_at, key_in, keys_of, nobody}
use Rattle.key_index.proofs.Orders.{root_least}
use Rattle.key_index.proofs.Holes.{some_within}
use Rattle.key_index.proofs.Slots.{fits, some_key, some_or_none}

pub some_entry : (n : ℕ) (b : Bool) → b ≡ (n == 0) → b ≡ false → 0 < n
some_entry zero b e f = absurd (false≢true (sym f ∙ e))
some_entry (suc n) b e f = omega arith

module _ (keys : List (Option Key)) (heap : List Entry) (places : List ℕ) (x : IsIndex keys heap places) where
  stands : (s : ℕ) (k : Key) → slice_index_or keys s None ≡ Some k → (slice_index places s < length heap) × (key_at heap (slice_index places s) ≡ k)
  stands s k h = let p = x.place s k h in (p.0, ap (λ (n : Entry). n.key) p.1)

  pub first_least : IsHeap (key_at heap) (length heap) → (s : ℕ) (k : Key) → slice_index_or keys s None ≡ Some k → is_before k (key_at heap 0) ≡ false
  first_least order s k h =
      let p = stands s k h in
      subst (λ (j : Key). is_before j (key_at heap 0) ≡ false) p.1 (root_least (key_at heap) (length heap) order (length heap) (slice_index places s) p.0 p.0)

  -- if a slot is taken, the first entry is there, and is least
  pub some_first : (s : ℕ) → IsSome (slice_index_or keys s None) → 0 < length heap
  some_first s some = let k = some_key (slice_index_or keys s None) some in let p = stands s k.0 k.1 in omega (arith, p.0)

  pub least_first : IsHeap (key_at heap) (length heap) → 0 < length heap → (e : Entry) → e ≡ entry_at heap 0 → IsLeast keys e.slot e.key
  least_first order some e is = subst (λ (n : Entry). IsLeast keys n.slot n.key) (sym is) ((x.entry 0 some).0, first_least order)

  pub none_taken : length heap ≡ 0 → (s : ℕ) → slice_index_or keys s None ≡ None
  none_taken empty s = elim (some_or_none (slice_index_or keys s None)) [
    | inl e ↦ e
    | inr e ↦ let p = stands s e.0 e.1 in absurd (omega (arith, p.0, empty))
  ]

  -- one slot more, which is free
  grown_key : (s : ℕ) → slice_index_or (keys ++ None ∷ []) s None ≡ slice_index_or keys s None
  grown_key s = elim (cases_lt s (length keys)) [
    | inl l ↦ get_or-append keys (None ∷ []) None s l
    | inr l ↦ elim (cases_eq s (length keys)) [
      | inl e ↦ get_or_push keys None None s (sym e) ∙ sym (get_or-eq_default keys None l)
      | inr ne ↦
          let past : length (keys ++ None ∷ []) ≤ s = omega (arith, length-append keys (None ∷ [])) in
          get_or-eq_default (keys ++ None ∷ []) None past ∙ sym (get_or-eq_default keys None l)
    ]
  ]

  grown_place : (s : ℕ) (k : Key) → slice_index_or keys s None ≡ Some k → slice_index (places ++ NOWHERE ∷ []) s ≡ slice_index places s
  grown_place s k h = get_or-append places (NOWHERE ∷ []) 0 s (omega (arith, some_within keys s k h, x.slots))

  pub grown : IsIndex (keys ++ None ∷ []) heap (places ++ NOWHERE ∷ [])
  grown = record {
    slots = length-append keys (None ∷ []) ∙ ap (λ (n : ℕ). n + 1) x.slots ∙ sym (length-append places (NOWHERE ∷ []));
    place = λ s k h.
        let had : slice_index_or keys s None ≡ Some k = sym (grown_key s) ∙ h in
        let to = grown_place s k had in
        let p = x.place s k had in
        (omega (arith, p.0, to), ap (entry_at heap) to ∙ p.1);
    entry = λ i il. let p = x.entry i il in (grown_key (entry_at heap i).slot ∙ p.0, grown_place (entry_at heap i).slot (key_at heap i) p.0 ∙ p.1);
    free = λ s l h. elim (cases_lt s (length places)) [
      | inl low ↦ get_or-append places (NOWHERE ∷ []) 0 s low ∙ x.free s low (sym (grown_key s) ∙ h)
      | inr high ↦ get_or_push places NOWHERE 0 s (omega (arith, l, length-append places (NOWHERE ∷ [])))
    ];
  }

-- the keys are those that heap and indices show
module _ (keys : List (Option Key)) (heap : List Entry) (places : List ℕ) (room : ℕ) (o : IsOrdered keys heap places room) (small : room < 2 ^ 63) where
  short : length heap < NOWHERE
  short = omega (arith, fits keys heap places o.index, o.slots, small)

  past : (i : ℕ) → length heap ≤ i → key_in heap i ≡ None
  past i l = get_or-eq_default (map (λ (n : Entry). Some n.key) heap) None (omega (arith, l, length-map heap (λ (n : Entry). Some n.key)))

  shown_key : (s : ℕ) → s < length places → key_in heap (slice_index places s) ≡ slice_index_or keys s None
  shown_key s l = elim (some_or_none (slice_index_or keys s None)) [
    | inl e ↦ past (slice_index places s) (omega (arith, short, o.index.free s l e)) ∙ sym e
    | inr e ↦ let p = stands keys heap places o.index s e.0 e.1 in get_or-map (λ (n : Entry). Some n.key) heap (slice_index places s) nobody None p.0 ∙ ap Some p.1 ∙ sym e.1
  ]

  pub shown : keys_of heap places ≡ keys
  shown = ext_get_or None (keys_of heap places) keys (length-map places (key_in heap) ∙ sym o.index.slots)
      (λ s l. let low : s < length places = omega (arith, l, length-map places (key_in heap)) in get_or-map (key_in heap) places s 0 None low ∙ shown_key s low)

  pub shown_ordered : IsOrdered (keys_of heap places) heap places room
  shown_ordered = subst (λ (ks : List (Option Key)). IsOrdered ks heap places room) (sym shown) o

  -- a slot whose index is `NOWHERE` is free
  pub free_key : (s : ℕ) → slice_index places s ≡ NOWHERE → slice_index_or keys s None ≡ None
  free_key s e = elim (some_or_none (slice_index_or keys s None)) [
    | inl none ↦ none
    | inr some ↦ let p = stands keys heap places o.index s some.0 some.1 in absurd (omega (arith, p.0, e, short))
  ]

-- slots that are all free
pub all_free : (heap : List Entry) (places : List ℕ) (n : ℕ) → heap ≡ [] → places ≡ replicate n NOWHERE → keys_of heap places ≡ replicate n None
all_free heap places n none free = ap (λ (h : List Entry). keys_of h places) none ∙ ap (keys_of []) free ∙ of_free n where
  of_free : (m : ℕ) → keys_of [] (replicate m NOWHERE) ≡ replicate m None
  of_free zero = refl
  of_free (suc m) = ap (λ (ks : List (Option Key)). None ∷ ks) (of_free m)
