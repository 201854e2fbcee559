-- What the values of struct types are made of.
use Rattle.std.specs.Prelude.{◌≡◌, ℕ, zero, suc, ◌+◌, Option, Some, None, option_map, option_and_then, List, [], ◌∷◌, ◌++◌, slice_get, bytes_eq, if◌then◌else◌, length}
use Rattle.type_table.specs.Types.{ValueType, StructType}

-- a field of a struct, with its type, if that is known
pub record Field : Type 0 where
  pub name : List ℕ
  pub kind : Option ValueType

-- the declared struct types, by their numbers: the fields of each
abbrev pub Structs : Type 0
Structs = List (List Field)

abbrev pub fields_in : Option (List Field) → List Field
fields_in None = []
fields_in (Some fields) = fields

-- the fields of the struct with this number
abbrev pub fields_of : Structs → ℕ → List Field
fields_of structs number = fields_in (slice_get structs number)

-- the type of the field at index `place`
abbrev pub kind_at : List Field → ℕ → Option ValueType
kind_at fields place = option_and_then (λ (field : Field). field.kind) (slice_get fields place)

-- one of these fields is a struct with this number. (A channel's element is not contained in it.)
abbrev pub HasStruct : List Field → ℕ → Type 0
HasStruct fields t = (place : ℕ) × (kind_at fields place ≡ Some (StructType t))

-- a struct contains another one, directly or through other structs
pub data Holds (structs : Structs) : ℕ → ℕ → Type 0 where
  Directly : (s t : ℕ) → HasStruct (fields_of structs s) t → Holds structs s t
  Through : (s u t : ℕ) → Holds structs s u → HasStruct (fields_of structs u) t → Holds structs s t

-- ---- widths

-- how many words two parts take together
abbrev pub together : Option ℕ → Option ℕ → Option ℕ
together (Some m) (Some n) = Some (m + n)
together m n = None

-- What a value of a type is made of, looked at so deep: None if structs lie deeper within one another, or if the
-- type of a field is not known. An int, a bool and a channel take one word, and a struct what its fields take.
abbrev pub kind_width : (ℕ → Option ℕ) → Option ValueType → Option ℕ
kind_width struct_width None = None
kind_width struct_width (Some (StructType number)) = struct_width number
kind_width struct_width (Some kind) = Some 1

abbrev pub fields_width : (ℕ → Option ℕ) → List Field → Option ℕ
fields_width struct_width [] = Some 0
fields_width struct_width (field ∷ rest) = together (kind_width struct_width field.kind) (fields_width struct_width rest)

-- the words of a struct's values, in which structs lie within one another at most so deep
abbrev pub width_within : Structs → ℕ → ℕ → Option ℕ
width_within structs zero number = None
width_within structs (suc depth) number = fields_width (width_within structs depth) (fields_of structs number)

-- the words of a value. No struct that is of finite width lies deeper than there are structs.
abbrev pub width : Structs → ValueType → Option ℕ
width structs kind = kind_width (width_within structs (suc (length structs))) (Some kind)

abbrev pub words_of : Option ℕ → ℕ
words_of None = 0
words_of (Some n) = n

-- the words of a variable; of none if its type is not known
abbrev pub variable_words : Structs → Option ValueType → ℕ
variable_words structs None = 0
variable_words structs (Some kind) = words_of (width structs kind)

-- ---- parts: the types of the words of a value, in order

abbrev pub kind_parts : (ℕ → List ValueType) → Option ValueType → List ValueType
kind_parts struct_parts None = []
kind_parts struct_parts (Some (StructType number)) = struct_parts number
kind_parts struct_parts (Some kind) = kind ∷ []

abbrev pub fields_parts : (ℕ → List ValueType) → List Field → List ValueType
fields_parts struct_parts [] = []
fields_parts struct_parts (field ∷ rest) = kind_parts struct_parts field.kind ++ fields_parts struct_parts rest

abbrev pub parts_within : Structs → ℕ → ℕ → List ValueType
parts_within structs zero number = []
parts_within structs (suc depth) number = fields_parts (parts_within structs depth) (fields_of structs number)

-- the types of the words of a value: int, bool and channels. The zero value of a type is the zero value of each.
abbrev pub parts : Structs → ValueType → List ValueType
parts structs kind = kind_parts (parts_within structs (suc (length structs))) (Some kind)

-- ---- fields

-- a field of a value: the index of its first word, and its type
pub record Selected : Type 0 where
  pub place : ℕ
  pub kind : Option ValueType

abbrev pub following : ℕ → Selected → Selected
following words selected = record { place = words + selected.place; kind = selected.kind }

abbrev pub field_among : Structs → List Field → List ℕ → Option Selected
field_among structs [] name = None
field_among structs (field ∷ rest) name =
    if bytes_eq field.name name then Some (record { place = 0; kind = field.kind })
    else option_map (following (variable_words structs field.kind)) (field_among structs rest name)

-- the field of this name in a value of a type
abbrev pub field_of : Structs → ValueType → List ℕ → Option Selected
field_of structs (StructType number) name = field_among structs (fields_of structs number) name
field_of structs kind name = None
