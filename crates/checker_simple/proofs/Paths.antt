-- Where paths of fields lead.
use Rattle.std.proofs.Common.{◌≡◌, ℕ, refl, ◌∙◌, ap, List, [], ◌∷◌, Option, Some, None, option_map}
use Rattle.type_table.specs.Types.{ValueType}
use Rattle.type_table.specs.Containment.{Structs, Selected, following, field_of}
use Rattle.typing_rules.specs.Worths.{type_of_field}
use Rattle.typing_rules.specs.Operations.{followed}
use Rattle.checker_simple.specs.Paths.{path_type}

-- a path from nothing leads to nothing
pub path_type-none : (structs : Structs) (fields : List (List ℕ)) → path_type structs None fields ≡ None
path_type-none structs [] = refl
path_type-none structs (field ∷ rest) = refl

-- where a value stands does not change its type
pub type_of_field-following : (words : ℕ) (at : Option Selected) → type_of_field (option_map (following words) at) ≡ type_of_field at
type_of_field-following words None = refl
type_of_field-following words (Some at) = refl

-- one step of a path from a value whose type is known or not
pub followed-step : (structs : Structs) (place : ℕ) (kind : Option ValueType) (field : List ℕ) (rest : List (List ℕ))
    → ((at : Option Selected) → type_of_field (followed structs at rest) ≡ path_type structs (type_of_field at) rest)
    → type_of_field (followed structs (Some (record { place = place; kind = kind })) (field ∷ rest)) ≡ path_type structs kind (field ∷ rest)
followed-step structs place None field rest further = further None ∙ path_type-none structs rest
followed-step structs place (Some kind) field rest further =
    further (option_map (following place) (field_of structs kind field))
    ∙ ap (λ k. path_type structs k rest) (type_of_field-following place (field_of structs kind field))

-- the type of what a path leads to is the type to which it leads
pub followed-type : (structs : Structs) (at : Option Selected) (fields : List (List ℕ)) → type_of_field (followed structs at fields) ≡ path_type structs (type_of_field at) fields
followed-type structs at [] = refl
followed-type structs None (field ∷ rest) = refl
followed-type structs (Some at) (field ∷ rest) = followed-step structs at.place at.kind field rest (λ o. followed-type structs o rest)

pub ruleset path_types = (path_type-none, followed-type)
