-- Bytes that are appended to others, in space that was reserved before.
use Rattle.std.specs.Prelude.{◌≡◌, ℕ, ◌+◌, ◌*◌, ◌≤◌, ◌++◌, List, vec_capacity, vec_len}
use Rattle.std.specs.Global.{Vec}

-- how many bytes the line of an event with `partners` partners has at most
abbrev pub longest_line : (partners : ℕ) → ℕ
longest_line partners = 120 + 21 * partners

-- there is capacity for `size` more bytes
abbrev pub HasRoom : Vec ℕ → (size : ℕ) → Type 0
HasRoom lines size = vec_len lines + size ≤ vec_capacity lines

-- these bytes were appended to the others; they are at most `size`, and the rest of the capacity stays
pub record AppendsWithin (old new : Vec ℕ) (size : ℕ) (bytes : List ℕ) : Type 0 where
  pub items : new.items ≡ old.items ++ bytes
  pub within : vec_len new ≤ vec_len old + size
  pub capacity : vec_capacity old ≤ vec_capacity new
