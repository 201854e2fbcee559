use Rattle.std.proofs.Common.{◌≡◌, ℕ, List, drop, map}
use Rattle.type_table.specs.Views.{signature_of}
use Rattle.typing_rules.specs.Files.{has_main}
use Rattle.checker.proofs.file.has_main.Given as goal

abbrev pub invariant-loop-function : goal.invariant-loop-function
invariant-loop-function l = (types : List (List ℕ)) → has_main (map (signature_of types) (drop l.function-index l.functions)) ≡ has_main (map (signature_of types) l.functions)
