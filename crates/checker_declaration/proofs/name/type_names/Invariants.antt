use Rattle.std.proofs.Common.{◌≡◌, ◌++◌, drop, map}
use Rattle.syntax.specs.View.{top_of}
use Rattle.typing_rules.specs.Kinds.{type_names}
use Rattle.checker_declaration.proofs.name.type_names.Given as goal

abbrev pub invariant-loop-top : goal.invariant-loop-top
invariant-loop-top l = l.names ++ type_names (map top_of (drop l.top-index l.tops)) ≡ type_names (map top_of l.tops)
