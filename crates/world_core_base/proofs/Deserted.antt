-- Whether anybody is there.
use Rattle.std.proofs.Common.{◌≡◌, ℕ, zero, suc, true, false, List, [], ◌∷◌, map, Option, Some, None, refl, ap}
use Rattle.std.specs.Prelude.{slice_index_or}
use Rattle.std.specs.Option.{is_some}
use Rattle.std.proofs.lemmas.Bool.{true≢false}
use Rattle.word.specs.Worlds.{is_deserted}

pub deserted : {A : Type 0} (xs : List (Option A)) → ((n : ℕ) → slice_index_or xs n None ≡ None) → is_deserted (map is_some xs) ≡ true
deserted [] none = refl
deserted (None ∷ xs) none = deserted xs (λ n. none (suc n))
deserted (Some x ∷ xs) none = absurd (true≢false (ap is_some (none zero)))

pub inhabited : {A : Type 0} (xs : List (Option A)) (n : ℕ) (x : A) → slice_index_or xs n None ≡ Some x → is_deserted (map is_some xs) ≡ false
inhabited [] n x h = cc
inhabited (None ∷ xs) zero x h = cc
inhabited (None ∷ xs) (suc n) x h = inhabited xs n x h
inhabited (Some y ∷ xs) n x h = refl
