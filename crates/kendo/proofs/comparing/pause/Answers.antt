use Rattle.std.proofs.Common.{rules}
use Rattle.pauses.specs.Plans.{pauses_of}
use Rattle.kendo.proofs.Judging.{traced_workers}
use Rattle.kendo.proofs.comparing.pause.Goals as goal

pub returns-clause-found : goal.returns-clause-found
returns-clause-found c =
    traced_workers c.args.workers c.args.limit (pauses_of c.args.plan.now.pauses.items) c.args.bytes.items c.run_paused_with_trace.new.trace.items c.run_paused_with_trace.result (search rules) c.run_paused_with_trace.ensures.found c.run_paused_with_trace.ensures.traced
