use Rattle.std.proofs.lemmas.Result.{err_from_is_err_and}
use Rattle.kendo_test.proofs.Verdicts.{unread_of}
use Rattle.kendo_test.proofs.testing.expectation_in.Goals as goal

pub returns-in_err-source-clause-untold : goal.returns-in_err-source-clause-untold
returns-in_err-source-clause-untold c =
    let p = err_from_is_err_and c.from_residual.result c.from_residual.ensures.1 in
    let e = c.in_err-source.ensures in
    rw (p.1, p.2) (unread_of c.args.bytes.now _ e.only e.refused)
