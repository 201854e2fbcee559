use Rattle.std.proofs.Common.{◌≡◌, map, drop}
use Rattle.type_table.specs.Views.{field_in}
use Rattle.type_table.specs.Visible.{types_of, globals_in, scope_of}
use Rattle.typing_rules.specs.Kinds.{with_fields}
use Rattle.checker.proofs.body.declare_all.Given as goal

abbrev pub invariant-loop-parameter : goal.invariant-loop-parameter
invariant-loop-parameter l = with_fields (globals_in l.table).structs (scope_of l.table l.visible) (map (field_in (types_of l.table)) (drop l.parameter-index l.parameters)) ≡ with_fields (globals_in l.table).structs (scope_of l.table l.initial.visible) (map (field_in (types_of l.table)) l.parameters)
