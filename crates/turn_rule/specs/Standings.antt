-- Where goroutines are, and which of them has the turn.
use Rattle.std.specs.Prelude.{◌≡◌, ℕ, Bool, true, false, ◌&&◌, cond, List, [], ◌∷◌, Option, Some, None, slice_get}
use Rattle.logical_clock.specs.declared.key.Key.{Key}
use Rattle.logical_clock.specs.Order.{is_before}
use Rattle.turn_rule.specs.declared.standing.Standing.{Standing}
use Rattle.turn_rule.specs.declared.standing.Standing.TheVariants.{Parked, Floor, Asleep}

-- row i is parked with this key
abbrev pub IsParked : List Standing → ℕ → Key → Type 0
IsParked rows i key = slice_get rows i ≡ Some (Parked key)

-- row i is parked, and no parked row's key is before its own
pub record IsLeast (rows : List Standing) (i : ℕ) : Type 0 where
  pub key : Key
  pub parked : IsParked rows i key
  pub least : (j : ℕ) (other : Key) → IsParked rows j other → is_before other key ≡ false

abbrev pub sooner_row : Option (ℕ × Key) → ℕ → Key → Option (ℕ × Key)
sooner_row None i key = Some (i, key)
sooner_row (Some best) i key = cond (is_before key best.1) (Some (i, key)) (Some best)

-- the better of the best row so far and row i
abbrev pub better : Option (ℕ × Key) → ℕ → Standing → Option (ℕ × Key)
better best i (Parked key) = sooner_row best i key
better best i (Floor key) = best
better best i Asleep = best

-- the key is before each of the floors
abbrev pub is_before_all : Key → List Key → Bool
is_before_all key [] = true
is_before_all key (floor ∷ rest) = is_before key floor && is_before_all key rest
