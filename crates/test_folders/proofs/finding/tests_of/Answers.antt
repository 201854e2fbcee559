use Rattle.std.proofs.Common.{rules, ◌≡◌, ◌++◌, ◌∙◌, ap, map, string_bytes}
use Rattle.std.proofs.lemmas.List.{map-append}
use Rattle.test_folders.proofs.Folders.{path_last, path_next}
use Rattle.test_folders.proofs.finding.tests_of.Goals as goal

pub loop-path-preserved : goal.loop-path-preserved
loop-path-preserved c =
    let grows : c.append.new.self.items ≡ c.loop-path.found.items ++ c.in_ok-tests.tests.items = search rules in
    path_next (λ path. path.now) c.args.paths.now c.loop-path.path-index _ _ _ _ c.loop-path-test.true c.in_ok-tests.ensures c.loop-path.invariant (ap (map string_bytes) grows ∙ map-append string_bytes _ _)

pub returns : goal.returns
returns c = path_last (λ path. path.now) c.args.paths.now c.loop-path.path-index _ c.loop-path-test.false c.loop-path.invariant
