-- Keys in the order in which they entered, as what the last change made of those before.
use Rattle.std.specs.Prelude.{ℕ, Bool, true, false, Option, Some, None, List, [], ◌∷◌, ◌++◌, ◌==◌, ◌+◌, not}
use Rattle.std.specs.List.{filter}

-- the keys, and how many changes made them
pub record OrderValue : Type 0 where
  pub keys : List ℕ
  pub changes : ℕ

abbrev pub is_not : ℕ → ℕ → Bool
is_not k j = not (j == k)

-- a key entered at the back, or left
abbrev pub changed : Option (List ℕ) → Bool → ℕ → List ℕ
changed None enters k = []
changed (Some ks) true k = ks ++ k ∷ []
changed (Some ks) false k = filter (is_not k) ks

abbrev pub one_more : Option ℕ → ℕ
one_more None = 0
one_more (Some n) = n + 1
