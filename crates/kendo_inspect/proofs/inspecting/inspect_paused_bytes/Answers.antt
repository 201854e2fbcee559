use Rattle.std.proofs.lemmas.Result.{err_from_is_err_and}
use Rattle.kendo_inspect.proofs.inspecting.inspect_paused_bytes.Goals as goal

pub returns-in_err-source-clause-refused : goal.returns-in_err-source-clause-refused
returns-in_err-source-clause-refused c =
    let p = err_from_is_err_and c.from_residual.result c.from_residual.ensures.1 in
    rw (p.1, p.2) c.in_err-source.ensures.refused
