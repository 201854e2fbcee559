-- Keys by numbers: most at the index that is the number's remainder, the others in a map.
use Rattle.std.specs.Prelude.{ℕ, ◌%◌, ◌==◌, Bool, true, List, Option, None, Some, cond, nat_eq, slice_index_or}
use Rattle.std.specs.Map.{lookup}
use Rattle.std.specs.Option.{option_or}
use Rattle.slot_index.specs.declared.numbered_keys.NumberedKey.{NumberedKey}
use Rattle.slot_index.specs.declared.numbered_keys.TheConstants.{NEAR}

pub record KeysValue : Type 0 where
  pub near : List (Option NumberedKey)
  pub far : List (ℕ × ℕ)

-- the entry at the index of number n, if any
abbrev pub near_at : List (Option NumberedKey) → ℕ → Option NumberedKey
near_at near n = slice_index_or near (n % NEAR) None

-- the key that it gives number n
abbrev pub key_for : Option NumberedKey → ℕ → Option ℕ
key_for None n = None
key_for (Some entry) n = cond (entry.number == n) (Some entry.key) None

-- whether it is no other number's
abbrev pub is_free_for : Option NumberedKey → ℕ → Bool
is_free_for None n = true
is_free_for (Some entry) n = entry.number == n

-- the key of number n in the map
abbrev pub far_key : List (ℕ × ℕ) → ℕ → Option ℕ
far_key far n = lookup (nat_eq n) far

-- the key of number n
abbrev pub owned : KeysValue → ℕ → Option ℕ
owned keys n = option_or (key_for (near_at keys.near n) n) (far_key keys.far n)
