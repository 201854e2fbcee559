use Rattle.std.proofs.Common.{[]}
use Rattle.std.proofs.lemmas.Result.{IfOk-weaker}
use Rattle.kendo.proofs.Judging.{tested_or_not}
use Rattle.kendo.proofs.testing.test_program.Goals as goal

pub returns : goal.returns
returns g c =
    IfOk-weaker c.report.result _ _ (λ status is. tested_or_not c.args.invocation.now [] c.args.bytes.items c.find-found.result status c.find-found.ensures is) c.report.ensures
