use Rattle.std.proofs.Common.{[]}
use Rattle.kendo.proofs.Judging.{of_some}
use Rattle.kendo.proofs.testing.test_or_update.Goals as goal

pub returns : goal.returns
returns g c = of_some c.args.invocation.now [] c.args.bytes.items c.test_program.result c.test_program.ensures
