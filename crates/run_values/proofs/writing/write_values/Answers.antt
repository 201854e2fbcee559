use Rattle.std.proofs.lemmas.Result.{err_from_is_err_and}
use Rattle.run_values.proofs.writing.write_values.Goals as goal

pub returns-in_err-_source-clause-refused : goal.returns-in_err-_source-clause-refused
returns-in_err-_source-clause-refused g c =
    let p = err_from_is_err_and c.from_residual.result c.from_residual.ensures.1 in
    rw (p.1, p.2) c.in_err-_source.ensures.refused
