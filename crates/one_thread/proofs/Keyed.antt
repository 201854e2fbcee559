-- The keys of the awake goroutines; slot n has the key of the goroutine at index n.
use Rattle.std.proofs.Common.{◌≡◌, ◌∙◌, ℕ, zero, suc, ◌+◌, false, List, [], ◌∷◌, ◌++◌, length, Option, Some, None, refl, sym, ap, subst, arith, inl, inr, get_or-set_same, get_or-set_other, length-append}
use Rattle.std.specs.Prelude.{option_map, slice_index_or, slice_set}
use Rattle.std.proofs.lemmas.Bool.{cases_eq, cases_lt}
use Rattle.std.proofs.lemmas.Bool.Decides.{nat_tests}
use Rattle.std.proofs.lemmas.List.{get_or_past, length-set}
use Rattle.logical_clock.specs.Order.{is_before, keys, least}
use Rattle.logical_clock.specs.declared.key.Key.{Key}
use Rattle.logical_clock.proofs.Keys.{IsNext, key, next_is}
use Rattle.one_thread.specs.declared.goroutine.Goroutine.{Goroutine}
use Rattle.one_thread.specs.Places.{AreKeyed, clock_of, key_of}

-- ---- one index changes

module _ {S : Type 0} (places : List (Option (Goroutine S))) (slots : List (Option Key)) (k : AreKeyed places slots) where
  set_there : (n : ℕ) (x : Option (Goroutine S)) → slice_index_or (slice_set slots n (key_of n x)) n None ≡ key_of n (slice_index_or (slice_set places n x) n None)
  set_there n x = elim (cases_lt n (length places)) [
    | inl lt ↦ get_or-set_same slots n (key_of n x) None (rw k.size lt) ∙ sym (ap (key_of n) (get_or-set_same places n x None lt))
    | inr le ↦ get_or_past (slice_set slots n (key_of n x)) n None (rw (length-set, k.size) le) ∙ sym (ap (key_of n) (get_or_past (slice_set places n x) n None (rw length-set le)))
  ]

  -- one goroutine changes, and so does the key in its slot
  pub keyed_set : (n : ℕ) (x : Option (Goroutine S)) → AreKeyed (slice_set places n x) (slice_set slots n (key_of n x))
  keyed_set n x = record {
    size = length-set slots n (key_of n x) ∙ k.size ∙ sym (length-set places n x);
    keys = λ m. elim (cases_eq m n) [
      | inl e ↦ subst (λ (i : ℕ). slice_index_or (slice_set slots n (key_of n x)) i None ≡ key_of i (slice_index_or (slice_set places n x) i None)) (sym e) (set_there n x)
      | inr ne ↦ get_or-set_other slots n m (key_of n x) None ne ∙ k.keys m ∙ sym (ap (key_of m) (get_or-set_other places n m x None ne))
    ];
  }

-- ---- one goroutine more

get_before_none : {A : Type 0} (xs : List (Option A)) (n : ℕ) → slice_index_or (xs ++ None ∷ []) n None ≡ slice_index_or xs n None
get_before_none [] zero = refl
get_before_none [] (suc n) = refl
get_before_none (x ∷ xs) zero = refl
get_before_none (x ∷ xs) (suc n) = get_before_none xs n

set_last : {A : Type 0} (xs : List A) (x y : A) → slice_set (xs ++ x ∷ []) (length xs) y ≡ xs ++ y ∷ []
set_last [] x y = refl
set_last (z ∷ zs) x y = ap (λ ws. z ∷ ws) (set_last zs x y)

keyed_room : {S : Type 0} (places : List (Option (Goroutine S))) (slots : List (Option Key)) → AreKeyed places slots → AreKeyed (places ++ None ∷ []) (slots ++ None ∷ [])
keyed_room places slots k = record {
  size = length-append slots (None ∷ []) ∙ ap (λ n. n + 1) k.size ∙ sym (length-append places (None ∷ []));
  keys = λ n. get_before_none slots n ∙ k.keys n ∙ sym (ap (key_of n) (get_before_none places n));
}

pub keyed_start : {S : Type 0} (places : List (Option (Goroutine S))) (slots : List (Option Key)) (n : ℕ) (g : Goroutine S) → AreKeyed places slots → n ≡ length places → AreKeyed (places ++ Some g ∷ []) (slice_set (slots ++ None ∷ []) n (key_of n (Some g)))
keyed_start places slots n g k is =
    subst (λ (ps : List (Option (Goroutine _))). AreKeyed ps (slice_set (slots ++ None ∷ []) n (key_of n (Some g)))) (ap (λ (i : ℕ). slice_set (places ++ None ∷ []) i (Some g)) is ∙ set_last places None (Some g))
    (keyed_set (places ++ None ∷ []) (slots ++ None ∷ []) (keyed_room places slots k) n (Some g))

-- ---- the least key

has_key : (n : ℕ) (o : Option ℕ) (k : Key) → option_map (λ (c : ℕ). key c n) o ≡ Some k → (o ≡ Some k.clock) × (n ≡ k.number)
has_key n None k e = absurd (cc)
has_key n (Some c) k e =
    let same : key c n ≡ k = cc in
    (ap (λ (j : Key). Some j.clock) same, ap (λ (j : Key). j.number) same)

same_clock : (a b : Key) → is_before a b ≡ false → is_before b a ≡ false → a.clock ≡ b.clock
same_clock a b h k = grind (arith, nat_tests)

same_number : (a b : Key) → is_before a b ≡ false → is_before b a ≡ false → a.number ≡ b.number
same_number a b h k = grind (arith, nat_tests)

same_key : (a b : Key) → is_before a b ≡ false → is_before b a ≡ false → a ≡ b
same_key a b h k =
    ap (λ (c : ℕ). key c a.number) (same_clock a b h k) ∙ ap (λ (n : ℕ). key b.clock n) (same_number a b h k)

module _ {S : Type 0} (places : List (Option (Goroutine S))) where
  abbrev IsNextOf : Option Key → Type 0
  IsNextOf o = IsNext clock_of None places o

  same_next : (a b : Option Key) → IsNextOf a → IsNextOf b → a ≡ b
  same_next None None x y = refl
  same_next None (Some k) x y = absurd (x k.number k.clock y.0)
  same_next (Some j) None x y = absurd (y j.number j.clock x.0)
  same_next (Some j) (Some k) x y = ap Some (same_key j k (y.1 j.number j.clock x.0) (x.1 k.number k.clock y.0))

  pub is_least : (o : Option Key) → IsNextOf o → o ≡ least (keys clock_of 0 places)
  is_least o next = same_next o (least (keys clock_of 0 places)) next (next_is clock_of None refl places)

module _ {S : Type 0} (places : List (Option (Goroutine S))) (slots : List (Option Key)) (k : AreKeyed places slots) where
  in_slot : (i c : ℕ) → clock_of (slice_index_or places i None) ≡ Some c → slice_index_or slots i None ≡ Some (key c i)
  in_slot i c e = k.keys i ∙ ap (option_map (λ (b : ℕ). key b i)) e

  -- no slot has a key
  pub none_least : ((s : ℕ) → slice_index_or slots s None ≡ None) → None ≡ least (keys clock_of 0 places)
  none_least none = is_least places None (λ i c e. let no : None ≡ Some (key c i) = sym (none i) ∙ in_slot i c e in absurd (cc))

  -- the key in this slot is not after any other
  pub some_least : (r : ℕ × Key) → slice_index_or slots r.0 None ≡ Some r.1 → ((s : ℕ) (j : Key) → slice_index_or slots s None ≡ Some j → is_before j r.1 ≡ false) → Some r.1 ≡ least (keys clock_of 0 places)
  some_least r there first =
      let has = has_key r.0 (clock_of (slice_index_or places r.0 None)) r.1 (sym (k.keys r.0) ∙ there) in
      is_least places (Some r.1) (
        subst (λ (n : ℕ). clock_of (slice_index_or places n None) ≡ Some r.1.clock) has.1 has.0,
        λ i c e. first i (key c i) (in_slot i c e),
      )
