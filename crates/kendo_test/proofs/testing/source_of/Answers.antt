use Rattle.std.proofs.Common.{subst}
use Rattle.std.proofs.lemmas.Result.{err_from_is_err_and}
use Rattle.kendo_reading.specs.Reading.{HasNoReading}
use Rattle.kendo_test.proofs.testing.source_of.Goals as goal

pub returns-in_err-source-clause-refused : goal.returns-in_err-source-clause-refused
returns-in_err-source-clause-refused c =
    let p = err_from_is_err_and c.from_residual-in_err-source.result c.from_residual-in_err-source.ensures.1 in
    let e = c.in_err-source.ensures in
    rw (p.1, p.2) (λ is. subst HasNoReading c.in_ok-text.ensures.items (e.refused is))
