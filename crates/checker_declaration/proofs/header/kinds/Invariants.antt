use Rattle.std.proofs.Common.{◌≡◌, ℕ, List, Some, map, take}
use Rattle.type_table.specs.declared.value_type.ValueType.{ValueType}
use Rattle.type_table.specs.Views.{kind_of, field_in}
use Rattle.typing_rules.specs.Kinds.{kinds_in}
use Rattle.checker_declaration.proofs.header.kinds.Given as goal

abbrev pub invariant-loop-parameter : goal.invariant-loop-parameter
invariant-loop-parameter l = (types : List (List ℕ)) → map (λ (kind : ValueType). Some (kind_of types kind)) l.all.items ≡ kinds_in (map (field_in types) (take l.parameter-index l.parameters))
