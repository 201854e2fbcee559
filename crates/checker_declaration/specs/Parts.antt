-- The fields of struct types in memory, of which not each has a known type.
use Rattle.std.specs.Prelude.{◌≡◌, ℕ, ◌<◌, ◌⊎◌, min, List, map, Option, Some, option_map, slice_get}
use Rattle.syntax.specs.View.{name_of}
use Rattle.type_table.specs.Types.{ValueType, StructType}
use Rattle.type_table.specs.Containment.{Field, Structs, Holds, kind_width, width_within, width}
use Rattle.type_table.specs.Marks.{IsWide}
use Rattle.type_table.specs.Views.{kind_of}
use Rattle.checker_declaration.specs.declared.parts.Part.{Part}
use Rattle.checker_declaration.specs.declared.parts.Parts.{Parts}

abbrev pub part_in : List (List ℕ) → Part → Field
part_in types part = record { name = name_of part.name.now; kind = option_map (kind_of types) part.kind }

abbrev pub fields_in : List (List ℕ) → List Part → List Field
fields_in types parts = map (part_in types) parts

abbrev pub parts_in : List (List ℕ) → Parts → List Field
parts_in types parts = fields_in types parts.fields.items

-- the struct types
abbrev pub structs_in : List (List ℕ) → List Parts → Structs
structs_in types all = map (parts_in types) all

-- a struct is this one, or lies within it
abbrev pub IsWithin : Structs → ℕ → ℕ → Type 0
IsWithin structs number s = (s ≡ number) ⊎ Holds structs number s

-- ---- widths

-- a value of the type takes `w` words, or over 16 if `w` is 17
abbrev pub IsKindWide : Structs → ℕ → Option ValueType → ℕ → Type 0
IsKindWide structs depth kind w = (v : ℕ) × (kind_width (width_within structs depth) kind ≡ Some v) × (w ≡ min v 17)

-- these are the known widths of structs that lie within one another at most `depth` deep
abbrev pub AreKnown : Structs → ℕ → List (Option ℕ) → Type 0
AreKnown structs depth known = (s w : ℕ) → slice_get known s ≡ Some (Some w) → IsWide structs depth s w

-- a value of the struct takes more than 16 words
abbrev pub IsTooWide : Structs → ℕ → Type 0
IsTooWide structs number = (v : ℕ) × (width structs (StructType number) ≡ Some v) × (16 < v)
