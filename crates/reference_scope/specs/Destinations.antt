-- Where values go, as the meaning of a program sees it.
use Rattle.std.specs.Option.{is_some}
use Rattle.std.specs.Prelude.{ℕ, List, map, if◌then◌else◌}
use Rattle.type_table.specs.Scopes.{is_blank}
use Rattle.type_table.specs.Types.{ValueType}
use Rattle.meaning.specs.Values.{whole}
use Rattle.type_table.specs.Views.{kind_of}
use Rattle.meaning.specs.Variables.{Blocks, in_block, innermost, kind_of as variable_kind, Destination as OneDestination, Nowhere, New, Into}
use Rattle.reference_scope.specs.Parts.{slot_of}
use Rattle.reference_scope.specs.declared.place.Destination.{Destination}
use Rattle.reference_scope.specs.declared.place.Destination.TheVariants as destinations

abbrev pub destination_of : List (List ℕ) → Destination → OneDestination
destination_of types destinations.Nowhere = Nowhere
destination_of types (destinations.New name kind) = New name.now (kind_of types kind)
destination_of types (destinations.Into name part) = Into name.now (slot_of types part)

abbrev pub destinations_of : List (List ℕ) → List Destination → List OneDestination
destinations_of types all = map (destination_of types) all

-- where a name that is declared puts its value, and a name of a `:=`
abbrev pub declared : List ℕ → ValueType → OneDestination
declared name kind = if is_blank name then Nowhere else New name kind

abbrev pub defined_in : Blocks → List ℕ → ValueType → OneDestination
defined_in blocks name kind =
    if is_blank name then Nowhere
    else (if is_some (in_block (innermost blocks) name) then Into name (whole (variable_kind (in_block (innermost blocks) name))) else New name kind)
