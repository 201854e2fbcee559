use Rattle.std.proofs.lemmas.Result.{err_from_is_err_and}
use Rattle.kendo_shell.proofs.Findings.{check_stops}
use Rattle.kendo_shell.proofs.checking.check.Goals as goal

pub returns-in_err-check_bytes : goal.returns-in_err-check_bytes
returns-in_err-check_bytes c =
    let p = err_from_is_err_and c.from_residual.result c.from_residual.ensures.1 in
    let e = c.in_err-check_bytes.ensures in
    rw (p.1, p.2) (check_stops c.args.bytes.items _ e.only e.refused e.why)
