use Rattle.std.proofs.lemmas.Result.{err_from_is_err_and}
use Rattle.kendo_front.proofs.explanation.explain_by_plan.Goals as goal

pub returns-in_err-source-clause-refused : goal.returns-in_err-source-clause-refused
returns-in_err-source-clause-refused c =
    let p = err_from_is_err_and c.from_residual.result c.from_residual.ensures.1 in
    rw (p.1, p.2) c.in_err-source.ensures.refused
