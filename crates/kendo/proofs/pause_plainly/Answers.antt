use Rattle.std.proofs.lemmas.Result.{err_from_is_err_and}
use Rattle.kendo_shell.proofs.Findings.{paused_ended, paused_stops}
use Rattle.kendo.proofs.pause_plainly.Goals as goal

pub returns-in_err-end-clause-found : goal.returns-in_err-end-clause-found
returns-in_err-end-clause-found c =
    let p = err_from_is_err_and c.from_residual.result c.from_residual.ensures.1 in
    let e = c.in_err-end.ensures in
    rw (p.1, p.2) (paused_stops c.args.limit c.args.bytes.items _ e.limit e.only e.refused e.why e.reading)

pub returns-clause-found : goal.returns-clause-found
returns-clause-found c =
    let made = c.in_ok-end.ensures in
    let whole = made.whole in
    let bounds = paused_ended c.args.limit _ made.limit in
    (bounds.0, bounds.1, (whole.0, whole.2.0, whole.1, whole.2.2))
