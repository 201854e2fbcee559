-- Events that go into the past.
use Rattle.std.proofs.Common.{◌≡◌, ℕ, ◌+◌, ◌<◌, ◌≤◌, ◌⊎◌, inl, inr, List, [], ◌∷◌, ◌++◌, length, refl, sym, ap, subst, arith}
use Rattle.event_window.specs.Windows.{Moves}
use Rattle.word.specs.declared.request.Event.{Event as Recorded}

none_there : (items : List Recorded) → length items ≡ 0 → items ≡ []
none_there [] e = refl
none_there (x ∷ xs) e = absurd cc

none_yet : (before skip : ℕ) (items : List Recorded) → before < skip → (before ≡ skip) ⊎ ((before ≤ skip) × (items ≡ [])) → length items ≡ 0
none_yet before skip items less (inl same) = omega (arith, less, same)
none_yet before skip items less (inr none) = ap length none.1

-- one of the first events goes into the past
pub first_goes : (before skip : ℕ) (items : List Recorded) (event : Recorded) → before < skip → (before ≡ skip) ⊎ ((before ≤ skip) × (items ≡ [])) → Moves before (items ++ event ∷ []) (before + 1) items
first_goes before skip items event less begins =
    subst (λ (xs : List Recorded). Moves before (xs ++ event ∷ []) (before + 1) xs) (sym (none_there items (none_yet before skip items less begins))) (event ∷ [], refl, refl)
