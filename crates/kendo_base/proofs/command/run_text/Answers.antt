use Rattle.std.proofs.lemmas.Result.{err_from_is_err_and}
use Rattle.kendo_base.proofs.Started.{of_both, of_workers}
use Rattle.kendo_shell.proofs.Findings.{both_ended, run_stops}
use Rattle.kendo_base.proofs.command.run_text.Goals as goal

pub returns-in_err-end-clause-found : goal.returns-in_err-end-clause-found
returns-in_err-end-clause-found g c =
    let p = err_from_is_err_and c.from_residual.result c.from_residual.ensures.1 in
    let e = c.in_err-end.ensures in
    let same = c.started_of-started.ensures.workers in
    rw (p.1, p.2)
    (run_stops c.args.workers c.args.limit c.args.bytes.items _ (of_workers c.started_of-started.result c.args.workers same e.workers)
    (of_both c.started_of-started.result c.args.workers same e.limit) e.only e.refused e.why e.reading)

pub returns-clause-found : goal.returns-clause-found
returns-clause-found g c =
    let made = c.in_ok-end.ensures in
    let same = c.started_of-started.ensures.workers in
    let bounds = both_ended c.args.workers c.args.limit _ (of_workers c.started_of-started.result c.args.workers same made.workers) (of_both c.started_of-started.result c.args.workers same made.limit) in
    let whole = made.whole in
    (bounds.0, bounds.1, (whole.0, whole.2.0, whole.1, whole.2.2))
