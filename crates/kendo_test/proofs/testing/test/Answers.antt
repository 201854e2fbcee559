use Rattle.kendo_test.proofs.Verdicts.{right_by_any}
use Rattle.kendo_test.proofs.testing.test.Goals as goal

pub returns-in-Ok : goal.returns-in-Ok
returns-in-Ok g c = right_by_any c.compare.result c.in-Ok.expectation c.args.options.leaks c.args.bytes.now c.args.options.limit c.in-Ok.ensures.said c.compare.ensures
