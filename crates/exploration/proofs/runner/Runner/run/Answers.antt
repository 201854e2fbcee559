use Rattle.std.proofs.Common.{subst}
use Rattle.exploration.proofs.Holding.{of_some}
use Rattle.exploration.specs.Shown.{RunsBy}
use Rattle.pauses.specs.Plans.{pauses_of}
use Rattle.syntax.specs.Tree.{File}
use Rattle.exploration.proofs.runner.Runner.run.Goals as goal

pub returns-in-Some-clause-runs : goal.returns-in-Some-clause-runs
returns-in-Some-clause-runs c =
    rw (c.in_ok-paused_run-in-Some.ensures.end, c.in_ok-paused_run-in-Some.ensures.output)
    (subst (λ (file : File). RunsBy file c.args.self.now.limit (pauses_of c.args.plan.now.pauses.items) c.in-Some.run'.output.items c.in-Some.run'.ended.end) c.in_ok-program_of.ensures
    (of_some _ c.in_ok-run.field-0 c.in-Some.run' c.in-Some.is c.in_ok-run.ensures.whole))
