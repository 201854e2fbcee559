use Rattle.std.proofs.Common.{[]}
use Rattle.kendo.proofs.Judging.{of_some}
use Rattle.kendo.proofs.exploring.explore_file.Goals as goal

pub returns : goal.returns
returns c = of_some c.args.invocation.now [] c.in-Some.bytes.items c.explore.result c.explore.ensures
