use Rattle.std.proofs.Common.{◌≡◌, ◌++◌, drop, map}
use Rattle.syntax.specs.View.{name_of}
use Rattle.checker_simple.specs.Names.{names_at}
use Rattle.checker_simple.proofs.names.references.Given as goal

abbrev pub invariant-loop-name : goal.invariant-loop-name
invariant-loop-name l = names_at l.all.items ++ map name_of (drop l.name-index l.names) ≡ map name_of l.names
