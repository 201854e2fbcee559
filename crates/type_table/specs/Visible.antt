-- What is declared, and what is visible, as the definitions see it.
use Rattle.std.specs.Prelude.{◌≡◌, ℕ, List, map, Some, take, length}
use Rattle.syntax.specs.View.{name_of}
use Rattle.type_table.specs.declared.table.TypeTable.{TypeTable}
use Rattle.type_table.specs.declared.layout.Selected.{Selected as InTable}
use Rattle.type_table.specs.declared.visible.Entry.{Entry}
use Rattle.type_table.specs.declared.visible.Visible.{Visible as InMemory}
use Rattle.type_table.specs.Containment.{Selected}
use Rattle.type_table.specs.Scopes.{Globals, Variable, Scope}
use Rattle.type_table.specs.Views.{names_of, kind_of, structs_of, signature_of}

-- the names of the struct types
abbrev pub types_of : TypeTable → List (List ℕ)
types_of table = names_of table.structs.items

-- what is visible everywhere
abbrev pub globals_in : TypeTable → Globals
globals_in table = record {
  types = types_of table;
  structs = structs_of (types_of table) table.structs.items;
  functions = map (signature_of (types_of table)) table.functions.items;
}

abbrev pub selected_of : List (List ℕ) → InTable → Selected
selected_of types at = record { place = at.place; kind = Some (kind_of types at.kind) }

abbrev pub variable_of : List (List ℕ) → Entry → Variable
variable_of types entry = record { name = name_of entry.name.now; kind = Some (kind_of types entry.kind); place = entry.place }

abbrev pub scope_of : TypeTable → InMemory → Scope
scope_of table visible = record {
  variables = map (variable_of (types_of table)) visible.entries.items;
  outer = visible.outer;
  words = visible.words;
}

-- what was visible still is, and the innermost block is the same
abbrev pub Keeps : InMemory → InMemory → Type 0
Keeps old new = (take (length old.entries.items) new.entries.items ≡ old.entries.items) × (new.outer ≡ old.outer)

-- the same is visible, in the same block
abbrev pub Leaves : InMemory → InMemory → Type 0
Leaves old new = (new.entries.items ≡ old.entries.items) × (new.outer ≡ old.outer)
