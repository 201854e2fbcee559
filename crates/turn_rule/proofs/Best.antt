-- The best of the rows so far.
use Rattle.std.proofs.Common.{◌≡◌, ◌≢◌, ℕ, ◌+◌, ◌<◌, Bool, true, false, cond, List, length, Option, Some, None, refl, sym, ◌∙◌, subst, arith, inl, inr, ◌⊎◌}
use Rattle.std.specs.Prelude.{slice_get}
use Rattle.std.proofs.lemmas.Bool.{cases_lt}
use Rattle.std.proofs.lemmas.Option.{slice_get_within}
use Rattle.logical_clock.specs.declared.key.Key.{Key}
use Rattle.logical_clock.specs.Order.{is_before}
use Rattle.logical_clock.proofs.Keys.{before_self, before_trans, not_before_trans}
use Rattle.turn_rule.specs.declared.standing.Standing.{Standing}
use Rattle.turn_rule.specs.declared.standing.Standing.TheVariants.{Parked, Floor, Asleep}
use Rattle.turn_rule.specs.Standings.{IsParked, IsLeast, better, sooner_row}

-- of the rows below n this one is the best
abbrev pub IsBest : List Standing → ℕ → Option (ℕ × Key) → Type 0
IsBest rows n None = (j : ℕ) (other : Key) → j < n → IsParked rows j other → ⊥
IsBest rows n (Some b) = IsParked rows b.0 b.1 × ((j : ℕ) (other : Key) → j < n → IsParked rows j other → is_before other b.1 ≡ false)

same_row : (rows : List Standing) (i : ℕ) (s t : Standing) → slice_get rows i ≡ Some s → slice_get rows i ≡ Some t → s ≡ t
same_row rows i s t a b = just (sym a ∙ b)
  where
    just : Some s ≡ Some t → s ≡ t
    just e = cc

same_key : (k l : Key) → Parked k ≡ Parked l → k ≡ l
same_key k l e = cc

not_both : (a b : Key) → is_before a b ≡ true → is_before b a ≡ false
not_both a b e = go (is_before b a) refl
  where
    go : (t : Bool) → is_before b a ≡ t → is_before b a ≡ false
    go false h = h
    go true h = absurd (before_self a (before_trans a b a e h))

-- row n is not before itself
not_self : (k : Key) → is_before k k ≡ false
not_self k = go (is_before k k) refl
  where
    go : (t : Bool) → is_before k k ≡ t → is_before k k ≡ false
    go false h = h
    go true h = absurd (before_self k h)

module _ (rows : List Standing) (n : ℕ) where
  at_row : (key other : Key) (j : ℕ) → slice_get rows n ≡ Some (Parked key) → IsParked rows j other → j ≡ n → other ≡ key
  at_row key other j here there e = same_key other key (same_row rows n (Parked other) (Parked key) (subst (λ m. IsParked rows m other) e there) here)

  below_or_at : (j : ℕ) → j < n + 1 → (j < n) ⊎ (j ≡ n)
  below_or_at j l = elim (cases_lt j n) [
    | inl m ↦ inl m
    | inr m ↦ inr (omega (arith, l, m))
  ]

  first_best : (key : Key) → IsBest rows n None → slice_get rows n ≡ Some (Parked key) → IsBest rows (n + 1) (Some (n, key))
  first_best key h here = (
    here,
    λ j other l there. elim (below_or_at j l) [
      | inl m ↦ absurd (h j other m there)
      | inr m ↦ rw (at_row key other j here there m) (not_self key)
    ],
  )

  new_best : (key : Key) (b : ℕ × Key) → IsBest rows n (Some b) → slice_get rows n ≡ Some (Parked key) → is_before key b.1 ≡ true → IsBest rows (n + 1) (Some (n, key))
  new_best key b h here e = (
    here,
    λ j other l there. elim (below_or_at j l) [
      | inl m ↦ not_before_trans key b.1 other (not_both key b.1 e) (h.1 j other m there)
      | inr m ↦ rw (at_row key other j here there m) (not_self key)
    ],
  )

  old_best : (key : Key) (b : ℕ × Key) → IsBest rows n (Some b) → slice_get rows n ≡ Some (Parked key) → is_before key b.1 ≡ false → IsBest rows (n + 1) (Some b)
  old_best key b h here e = (
    h.0,
    λ j other l there. elim (below_or_at j l) [
      | inl m ↦ h.1 j other m there
      | inr m ↦ rw (at_row key other j here there m) e
    ],
  )

  sooner_best : (key : Key) (b : ℕ × Key) (t : Bool) → is_before key b.1 ≡ t → IsBest rows n (Some b) → slice_get rows n ≡ Some (Parked key) → IsBest rows (n + 1) (cond t (Some (n, key)) (Some b))
  sooner_best key b true e h here = new_best key b h here e
  sooner_best key b false e h here = old_best key b h here e

  parked_best : (key : Key) (best : Option (ℕ × Key)) → IsBest rows n best → slice_get rows n ≡ Some (Parked key) → IsBest rows (n + 1) (sooner_row best n key)
  parked_best key None h here = first_best key h here
  parked_best key (Some b) h here = sooner_best key b (is_before key b.1) refl h here

  other_row : (s : Standing) → slice_get rows n ≡ Some s → ((key : Key) → s ≢ Parked key) → (best : Option (ℕ × Key)) → IsBest rows n best → IsBest rows (n + 1) best
  other_row s here no_key None h = λ j other l there. elim (below_or_at j l) [
    | inl m ↦ h j other m there
    | inr m ↦ absurd (no_key other (same_row rows n s (Parked other) here (subst (λ m. IsParked rows m other) m there)))
  ]
  other_row s here no_key (Some b) h = (
    h.0,
    λ j other l there. elim (below_or_at j l) [
      | inl m ↦ h.1 j other m there
      | inr m ↦ absurd (no_key other (same_row rows n s (Parked other) here (subst (λ m. IsParked rows m other) m there)))
    ],
  )

  pub best_on : (best : Option (ℕ × Key)) (s : Standing) → IsBest rows n best → slice_get rows n ≡ Some s → IsBest rows (n + 1) (better best n s)
  best_on best (Parked key) h here = parked_best key best h here
  best_on best (Floor key) h here = other_row (Floor key) here (λ k e. cc) best h
  best_on best Asleep h here = other_row Asleep here (λ k e. cc) best h

parked_within : (rows : List Standing) (j : ℕ) (other : Key) → IsParked rows j other → j < length rows
parked_within rows j other h = slice_get_within rows j (Parked other) h

pub least_found : (rows : List Standing) (b : ℕ × Key) → IsBest rows (length rows) (Some b) → IsLeast rows b.0
least_found rows b h = record { key = b.1; parked = h.0; least = λ j other there. h.1 j other (parked_within rows j other there) there }

pub none_found : (rows : List Standing) → IsBest rows (length rows) None → (j : ℕ) (other : Key) → IsParked rows j other → ⊥
none_found rows h j other there = h j other (parked_within rows j other there) there
