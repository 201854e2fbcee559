use Rattle.std.proofs.Common.{rules, ◌≡◌, ◌∙◌, ◌≤◌, inr, length, map, string_bytes, sym, subst, arith}
use Rattle.std.proofs.lemmas.List.{length-map}
use Rattle.kendo.proofs.Judging.{summed}
use Rattle.kendo.specs.Verdicts.{Judges}
use Rattle.kendo_shell.proofs.SeveralFiles.{of_more}
use Rattle.kendo_shell.specs.Answers.{IsOfAll}
use Rattle.kendo.proofs.testing.test_files.Goals as goal

pub loop-path-preserved : goal.loop-path-preserved
loop-path-preserved g c = of_more (Judges c.args.invocation.now) _ _ _ _ c.loop-path.invariant c.in_ok-next.ensures c.first_failure-status.ensures

pub returns : goal.returns
returns g c =
    let invocation = c.args.invocation.now in
    let paths = c.in_ok-tests.tests.paths.items in
    let end : c.loop-path.path-index ≡ length paths = omega (arith, c.loop-path-test.false, c.loop-path.auto.path-index-end) in
    let many : length (map string_bytes paths) ≡ length paths = length-map paths string_bytes in
    let path : 1 ≤ length paths = search rules in
    let some : 1 ≤ length (map string_bytes paths) = omega (arith, many, path) in
    inr (summed invocation _ _ _ _ _ (map string_bytes paths) c.in-Test.is c.in_ok-tests.ensures some c.in_ok-all.ensures (subst (λ n. IsOfAll (Judges invocation) n c.loop-path.status) (end ∙ sym many) c.loop-path.invariant))
