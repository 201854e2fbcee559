use Rattle.std.proofs.Common.{◌≡◌, ◌++◌, map, drop}
use Rattle.syntax.specs.View.{top_of}
use Rattle.typing_rules.specs.Kinds.{structs_with}
use Rattle.checker_declaration.specs.Parts.{structs_in}
use Rattle.checker_declaration.proofs.parts.all_parts.Given as goal

abbrev pub invariant-loop-top : goal.invariant-loop-top
invariant-loop-top l = structs_in l.types l.all.items ++ structs_with l.types (map top_of (drop l.top-index l.tops)) ≡ structs_with l.types (map top_of l.tops)
