use Rattle.std.proofs.Common.{refl}
use Rattle.std.proofs.lemmas.Result.{err_from_is_err_and}
use Rattle.kendo_shell.proofs.Findings.{list_stops, read_of}
use Rattle.kendo.proofs.list.Goals as goal

pub returns-in_err-list_bytes-clause-found : goal.returns-in_err-list_bytes-clause-found
returns-in_err-list_bytes-clause-found c =
    let p = err_from_is_err_and c.from_residual.result c.from_residual.ensures.1 in
    let e = c.in_err-list_bytes.ensures in
    rw (p.1, p.2) (list_stops c.args.bytes.items _ e.only e.refused e.why (λ lost. let b = e.begins lost in (b.0, b.1)))

pub returns-clause-found : goal.returns-clause-found
returns-clause-found c = (refl, read_of c.args.bytes.items c.in_ok-list_bytes.ensures.whole)
