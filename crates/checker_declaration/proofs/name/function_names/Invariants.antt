use Rattle.std.proofs.Common.{◌≡◌, ◌++◌, drop, map}
use Rattle.syntax.specs.View.{top_of}
use Rattle.typing_rules.specs.Kinds.{function_names}
use Rattle.checker_declaration.proofs.name.function_names.Given as goal

abbrev pub invariant-loop-top : goal.invariant-loop-top
invariant-loop-top l = l.names ++ function_names (map top_of (drop l.top-index l.tops)) ≡ function_names (map top_of l.tops)
