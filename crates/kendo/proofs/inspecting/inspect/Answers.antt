use Rattle.std.proofs.Common.{refl}
use Rattle.std.proofs.lemmas.Result.{err_from_is_err_and}
use Rattle.kendo_shell.proofs.Findings.{inspect_loses, inspect_stops, limit_ended}
use Rattle.kendo.proofs.Judging.{not_lost}
use Rattle.kendo.proofs.inspecting.inspect.Goals as goal

pub returns-in_err-seen-clause-found : goal.returns-in_err-seen-clause-found
returns-in_err-seen-clause-found c =
    let p = err_from_is_err_and c.from_residual.result c.from_residual.ensures.1 in
    let e = c.in_err-seen.ensures in
    rw (p.1, p.2) (inspect_stops c.args.limit c.args.bytes.items _ e.limit e.only e.refused e.why)

pub returns-in_err-show-clause-found : goal.returns-in_err-show-clause-found
returns-in_err-show-clause-found c =
    let p = err_from_is_err_and c.from_residual-in_err-show.result c.from_residual-in_err-show.ensures.1 in
    let made = c.in_ok-seen.ensures in
    rw (p.1, p.2) (inspect_loses c.args.limit c.args.bytes.items _ c.in_err-show.ensures.only (limit_ended c.args.limit _ made.limit) made.reads)

pub returns-clause-found : goal.returns-clause-found
returns-clause-found c =
    let made = c.in_ok-seen.ensures in
    (refl, limit_ended c.args.limit _ made.limit, made.reads)

pub returns-in_err-seen-clause-write : goal.returns-in_err-seen-clause-write
returns-in_err-seen-clause-write c =
    let p = err_from_is_err_and c.from_residual.result c.from_residual.ensures.1 in
    rw (p.1, p.2) (λ lost. absurd (not_lost _ c.in_err-seen.ensures.only lost))
