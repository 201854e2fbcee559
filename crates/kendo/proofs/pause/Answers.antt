use Rattle.std.proofs.Common.{rules}
use Rattle.pauses.specs.Plans.{pauses_of}
use Rattle.kendo.proofs.Judging.{more_workers}
use Rattle.kendo.proofs.pause.Goals as goal

pub returns-clause-found : goal.returns-clause-found
returns-clause-found c =
    more_workers c.args.workers c.args.limit (pauses_of c.args.plan.now.plan.pauses.items) c.args.bytes.items c.pause_valued.result (search rules) c.pause_valued.ensures.found
