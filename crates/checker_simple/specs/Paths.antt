-- Where paths of fields lead.
use Rattle.std.specs.Prelude.{ℕ, Option, Some, None, List, [], ◌∷◌}
use Rattle.type_table.specs.Types.{ValueType}
use Rattle.type_table.specs.Containment.{Structs, field_of}
use Rattle.typing_rules.specs.Worths.{type_of_field}

-- the type of the field to which a path leads from a value of a type
abbrev pub path_type : Structs → Option ValueType → List (List ℕ) → Option ValueType
path_type structs kind [] = kind
path_type structs None (field ∷ rest) = None
path_type structs (Some kind) (field ∷ rest) = path_type structs (type_of_field (field_of structs kind field)) rest
