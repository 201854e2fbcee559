use Rattle.std.proofs.Common.{◌∙◌, inr, sym}
use Rattle.kendo.proofs.Judging.{explained_or_not, tested_explained, untested}
use Rattle.kendo.proofs.perform.Goals as goal

pub returns-then-is_test : goal.returns-then-is_test
returns-then-is_test g c = tested_explained c.args.invocation.now c.with_environment.result c.with_environment.result.explains _ c.test_files.result c.with_environment.ensures c.test_files.ensures

pub returns : goal.returns
returns g c =
    inr (explained_or_not c.args.invocation.now c.with_environment.result c.with_environment.result.explains c.in_ok-status.status c.with_environment.ensures
    (untested c.with_environment.result c.in_ok-status.status (sym c.is_test.ensures ∙ c.if-is_test.false) c.in_ok-status.ensures))
