use Rattle.std.proofs.Common.{inr, refl}
use Rattle.std.proofs.lemmas.Result.{err_from_is_err_and}
use Rattle.kendo_shell.proofs.Findings.{explore_stops, findings_lost, limit_ended}
use Rattle.kendo.proofs.exploring.Task.explore.Goals as goal

pub returns-in_err-explored : goal.returns-in_err-explored
returns-in_err-explored c =
    let p = err_from_is_err_and c.from_residual.result c.from_residual.ensures.1 in
    let e = c.in_err-explored.ensures in
    rw (p.1, p.2) (explore_stops c.args.options.limit c.args.options.tries c.args.options.states c.args.bytes.items _ e.limit e.only e.refused e.why)

pub returns-in_err-write : goal.returns-in_err-write
returns-in_err-write c =
    let p = err_from_is_err_and c.from_residual-in_err-write.result c.from_residual-in_err-write.ensures.1 in
    let made = c.in_ok-explored.ensures in
    rw (p.1, p.2) (findings_lost c.args.options.limit c.args.options.tries c.args.options.states c.args.bytes.items _ c.in_err-write.ensures (limit_ended c.args.options.limit _ made.limit) (made.shown.0, made.shown.1))

pub returns-in_err-all_written : goal.returns-in_err-all_written
returns-in_err-all_written c =
    let p = err_from_is_err_and c.from_residual-in_err-all_written.result c.from_residual-in_err-all_written.ensures.1 in
    let made = c.in_ok-explored.ensures in
    rw (p.1, p.2) (findings_lost c.args.options.limit c.args.options.tries c.args.options.states c.args.bytes.items _ (inr c.in_err-all_written.ensures) (limit_ended c.args.options.limit _ made.limit) (made.shown.0, made.shown.1))

pub returns : goal.returns
returns c =
    let made = c.in_ok-explored.ensures in
    (limit_ended c.args.options.limit _ made.limit, (made.shown.0, c.in_ok-explored.explored, made.shown.1, made.shown.2, refl))
