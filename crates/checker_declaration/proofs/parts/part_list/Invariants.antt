use Rattle.std.proofs.Common.{◌≡◌, ◌++◌, map, drop}
use Rattle.syntax.specs.View.{declared_of}
use Rattle.typing_rules.specs.Kinds.{fields_declared}
use Rattle.checker_declaration.specs.Parts.{fields_in}
use Rattle.checker_declaration.proofs.parts.part_list.Given as goal

abbrev pub invariant-loop-group : goal.invariant-loop-group
invariant-loop-group l = fields_in l.types l.fields.items ++ fields_declared l.types (map declared_of (drop l.group-index l.groups)) ≡ fields_declared l.types (map declared_of l.groups)
