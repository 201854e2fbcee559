use Rattle.std.proofs.Common.{◌≡◌, ℕ, ◌++◌, Some, List, map, take}
use Rattle.syntax.specs.View.{name_of}
use Rattle.type_table.specs.Views.{kind_of, field_in}
use Rattle.typing_rules.specs.Kinds.{all_fields}
use Rattle.checker_declaration.proofs.group.declare.Given as goal

abbrev pub invariant-loop-name : goal.invariant-loop-name
invariant-loop-name l = (types : List (List ℕ)) → map (field_in types) l.entries.items ≡ map (field_in types) l.initial.entries.items ++ all_fields (Some (kind_of types l.kind)) (map name_of (take l.name-index l.names))
