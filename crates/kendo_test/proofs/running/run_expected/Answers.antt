use Rattle.std.proofs.Common.{rules}
use Rattle.std.proofs.lemmas.Result.{err_from_is_err_and}
use Rattle.kendo_test.proofs.Printing.{met_alone}
use Rattle.kendo_test.proofs.running.run_expected.Goals as goal

pub returns-in_err-end-in-None-clause-refused : goal.returns-in_err-end-in-None-clause-refused
returns-in_err-end-in-None-clause-refused g c =
    let p = err_from_is_err_and c.from_residual.result c.from_residual.ensures.1 in
    rw (p.1, p.2) c.in_err-end-in-None.ensures.refused

pub returns-in_err-end-in-Some-clause-refused : goal.returns-in_err-end-in-Some-clause-refused
returns-in_err-end-in-Some-clause-refused g c =
    let p = err_from_is_err_and c.from_residual-in_err-end-in-Some.result c.from_residual-in_err-end-in-Some.ensures.1 in
    rw (p.1, p.2) c.in_err-end-in-Some.ensures.refused

pub returns-in_ok-end-in-None-clause-met : goal.returns-in_ok-end-in-None-clause-met
returns-in_ok-end-in-None-clause-met g c =
    λ yes. met_alone c.args.expectation.now c.args.bytes.items c.args.limit c.in_ok-end-in-None.end c.in-None.is (search rules) c.in_ok-end-in-None.ensures.ran
