-- Parameters of functions.
use Rattle.std.specs.Prelude.{ℕ, List, Some, map}
use Rattle.type_table.specs.Containment.{Field}
use Rattle.type_table.specs.Views.{kind_of}
use Rattle.meaning.specs.Values.{known}
use Rattle.reference.specs.declared.call.Parameter.{Parameter}

abbrev pub parameter_of : List (List ℕ) → Parameter → Field
parameter_of types p = record { name = p.name.now; kind = Some (kind_of types p.kind) }

abbrev pub parameters_in : List (List ℕ) → List Parameter → List Field
parameters_in types all = map (parameter_of types) all

-- a parameter with a type that is known
abbrev pub settled : Field → Field
settled field = record { name = field.name; kind = Some (known field.kind) }
