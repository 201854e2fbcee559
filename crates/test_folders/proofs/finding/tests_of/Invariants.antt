use Rattle.std.proofs.Common.{◌++◌, List, ℕ, drop, map, string_bytes}
use Rattle.test_folders.specs.Folders.{AreTests}
use Rattle.test_folders.proofs.finding.tests_of.Given as goal

abbrev pub invariant-loop-path : goal.invariant-loop-path
invariant-loop-path l =
    (later : List (List ℕ)) → AreTests (map (λ path. path.now) (drop l.path-index l.paths)) later
    → AreTests (map (λ path. path.now) l.paths) (map string_bytes l.found.items ++ later)
