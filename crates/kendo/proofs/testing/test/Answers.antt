use Rattle.std.proofs.Common.{inl, inr, refl, subst}
use Rattle.std.proofs.lemmas.Result.{err_from_is_err_and}
use Rattle.kendo_shell.proofs.Findings.{limit_ended, test_lost, test_stops}
use Rattle.kendo_test.specs.Passing.{IsRight}
use Rattle.kendo.proofs.testing.test.Goals as goal

pub returns-in_err-tested : goal.returns-in_err-tested
returns-in_err-tested g c =
    let p = err_from_is_err_and c.from_residual.result c.from_residual.ensures.1 in
    let e = c.in_err-tested.ensures in
    rw (p.1, p.2) (test_stops c.args.limit c.args.search.tries c.args.search.states c.args.bytes.items _ e.limit e.only)

pub returns-in_err-lines : goal.returns-in_err-lines
returns-in_err-lines g c =
    let p = err_from_is_err_and c.from_residual-in_err-lines.result c.from_residual-in_err-lines.ensures.1 in
    rw (p.1, p.2) (test_lost c.args.limit c.args.search.tries c.args.search.states c.args.bytes.items _ (inl refl))

pub returns-in_err-write : goal.returns-in_err-write
returns-in_err-write g c =
    let p = err_from_is_err_and c.from_residual-in_err-write.result c.from_residual-in_err-write.ensures.1 in
    rw (p.1, p.2) (test_lost c.args.limit c.args.search.tries c.args.search.states c.args.bytes.items _ c.in_err-write.ensures)

pub returns-in_err-all_written : goal.returns-in_err-all_written
returns-in_err-all_written g c =
    let p = err_from_is_err_and c.from_residual-in_err-all_written.result c.from_residual-in_err-all_written.ensures.1 in
    rw (p.1, p.2) (test_lost c.args.limit c.args.search.tries c.args.search.states c.args.bytes.items _ (inr c.in_err-all_written.ensures))

pub returns : goal.returns
returns g c =
    let made = c.in_ok-tested.ensures in
    (limit_ended c.args.limit _ made.limit, (c.in_ok-tested.tested.verdict, subst (λ text. IsRight c.in_ok-tested.tested.verdict c.args.leaks text c.args.limit) c.as_slice.ensures.value made.right, c.is_passed.ensures))
