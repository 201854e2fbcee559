use Rattle.std.proofs.Common.{[]}
use Rattle.kendo.proofs.Judging.{explored_or_not}
use Rattle.kendo.proofs.exploring.explore.Goals as goal

pub returns : goal.returns
returns c = explored_or_not c.args.invocation.now [] c.args.bytes.items c.find-found.result c.in_ok-status.status c.find-found.ensures c.in_ok-status.ensures
