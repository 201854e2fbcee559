use Rattle.std.proofs.Common.{take}
use Rattle.turn_rule.specs.declared.Step.TheVariants.{Lend}
use Rattle.world_core.proofs.Scheduling.{is_in_order, is_moment, went_on}
use Rattle.world_core.proofs.schedule.run_schedule.Goals as goal

pub loop-next-preserved : goal.loop-next-preserved
loop-next-preserved c =
    went_on c.args.code.now c.args.limit c.args.steps.now c.loop-next.next-index (Lend 0) c.loop-next.world c.step.new.self c.loop-next-test.true c.loop-next.invariant c.in_ok-step.ensures.happens c.in_ok-step.ensures.turns c.in_ok-step.ensures.fits

pub returns-clause-moment : goal.returns-clause-moment
returns-clause-moment c = is_moment c.args.code.now c.args.limit (take c.loop-next.next-index c.args.steps.now) c.loop-next.world c.loop-next.invariant.world

pub returns-clause-order : goal.returns-clause-order
returns-clause-order c = is_in_order c.args.code.now c.args.limit (take c.loop-next.next-index c.args.steps.now) c.loop-next.world c.loop-next.invariant.world
