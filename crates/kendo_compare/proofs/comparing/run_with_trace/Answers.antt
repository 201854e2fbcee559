use Rattle.std.proofs.Common.{rules}
use Rattle.std.proofs.lemmas.Result.{err_from_is_err_and}
use Rattle.kendo_shell.proofs.Findings.{both_ended, run_stops}
use Rattle.kendo_compare.proofs.comparing.run_with_trace.Goals as goal

pub returns-in_err-end-clause-found : goal.returns-in_err-end-clause-found
returns-in_err-end-clause-found g c =
    let p = err_from_is_err_and c.from_residual.result c.from_residual.ensures.1 in
    let e = c.in_err-end.ensures in
    rw (p.1, p.2) (run_stops c.args.workers c.args.limit c.args.bytes.items _ e.workers e.limit e.only e.refused e.why e.reading)

pub returns-clause-found : goal.returns-clause-found
returns-clause-found g c =
    let made = c.in_ok-end.ensures in
    let bounds = both_ended c.args.workers c.args.limit _ made.workers made.limit in
    let whole = made.whole in
    (bounds.0, bounds.1, (whole.0, whole.2.0, whole.1, whole.2.2))

pub returns-clause-traced : goal.returns-clause-traced
returns-clause-traced g c =
    let traced = c.in_ok-end.ensures.traced in
    (traced.0, traced.1, (traced.2.0, search rules, traced.2.2))

pub returns-in_err-end-clause-nothing : goal.returns-in_err-end-clause-nothing
returns-in_err-end-clause-nothing g c =
    let p = err_from_is_err_and c.from_residual.result c.from_residual.ensures.1 in
    rw (p.1, p.2) c.in_err-end.ensures.nothing
