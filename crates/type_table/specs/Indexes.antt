-- Numbers that are found by names.
use Rattle.std.specs.Prelude.{ℕ, suc, Option, Some, None, option_map, List, [], ◌∷◌, map, bytes_eq, if◌then◌else◌}
use Rattle.std.specs.HashMap.{get_by}
use Rattle.syntax.specs.View.{name_of}
use Rattle.type_table.specs.declared.name_index.NameIndex.{NameIndex}
use Rattle.type_table.specs.declared.visible.Entry.{Entry}

-- the number of a name
abbrev pub number_in : NameIndex → List ℕ → Option ℕ
number_in index name = get_by (λ key. bytes_eq name key.now) index.numbers

-- the second one, if there is one
abbrev pub later_place : Option ℕ → Option ℕ → Option ℕ
later_place found None = found
later_place found (Some place) = Some place

-- the index of the last of these that is `name`
abbrev pub last_place : List (List ℕ) → List ℕ → Option ℕ
last_place [] name = None
last_place (first ∷ rest) name = later_place (if bytes_eq first name then Some 0 else None) (option_map suc (last_place rest name))

-- the names of variables
abbrev pub entry_names : List Entry → List (List ℕ)
entry_names entries = map (λ (entry : Entry). name_of entry.name.now) entries
