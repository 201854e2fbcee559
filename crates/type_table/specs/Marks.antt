-- How far the widths of struct types are known.
use Rattle.std.specs.Prelude.{◌≡◌, ℕ, suc, ◌≤◌, min, List, [], ◌∷◌, Some, slice_get}
use Rattle.type_table.specs.declared.width.Mark.{Mark}
use Rattle.type_table.specs.declared.width.Mark.TheVariants.{New, Open, Wide}
use Rattle.type_table.specs.Containment.{Structs, Field, width_within, fields_width}

-- how many structs are still new
abbrev pub news : List Mark → ℕ
news [] = 0
news (New ∷ rest) = suc (news rest)
news (Open ∷ rest) = news rest
news (Wide w ∷ rest) = news rest

-- how many have a known width
abbrev pub wides : List Mark → ℕ
wides [] = 0
wides (New ∷ rest) = wides rest
wides (Open ∷ rest) = wides rest
wides (Wide w ∷ rest) = suc (wides rest)

-- its width in words; every width over 16 counts as 17
abbrev pub IsWide : Structs → ℕ → ℕ → ℕ → Type 0
IsWide structs depth s w = (v : ℕ) × (width_within structs depth s ≡ Some v) × (w ≡ min v 17)

abbrev pub AreWide : Structs → ℕ → List Field → ℕ → Type 0
AreWide structs depth fields w = (v : ℕ) × (fields_width (width_within structs depth) fields ≡ Some v) × (w ≡ min v 17)

-- the marks say what is so
abbrev pub Stands : Structs → List Mark → Type 0
Stands structs marks = (s w : ℕ) → slice_get marks s ≡ Some (Wide w) → IsWide structs (suc (wides marks)) s w

-- from these marks to those: what is open stays so and nothing else is, and more widths are known
pub record Goes (structs : Structs) (before following : List Mark) : Type 0 where
  pub stands : Stands structs following
  pub opened : (o : ℕ) → slice_get following o ≡ Some Open → slice_get before o ≡ Some Open
  pub kept : (o : ℕ) → slice_get before o ≡ Some Open → slice_get following o ≡ Some Open
  pub more : wides before ≤ wides following
  pub fewer : news following ≤ news before
