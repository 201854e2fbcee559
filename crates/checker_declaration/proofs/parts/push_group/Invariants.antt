use Rattle.std.proofs.Common.{◌≡◌, ◌++◌, option_map, map, take}
use Rattle.syntax.specs.View.{name_of}
use Rattle.type_table.specs.Views.{kind_of}
use Rattle.typing_rules.specs.Kinds.{all_fields}
use Rattle.checker_declaration.specs.Parts.{fields_in}
use Rattle.checker_declaration.proofs.parts.push_group.Given as goal

abbrev pub invariant-loop-name : goal.invariant-loop-name
invariant-loop-name l = fields_in l.types l.fields.items ≡ fields_in l.types l.initial.fields.items ++ all_fields (option_map (kind_of l.types) l.kind) (map name_of (take l.name-index l.name-items))
