use Rattle.std.proofs.Common.{sym, subst}
use Rattle.world_core_base.specs.Cores.{Asks}
use Rattle.world_core.specs.Schedules.{WorldValue}
use Rattle.world_core.proofs.Scheduling.{turn_asks}
use Rattle.world_core.proofs.schedule.World.commit.Goals as goal

pub perform-requires-clause-asks : goal.perform-requires-clause-asks
perform-requires-clause-asks c =
    subst (λ (x : WorldValue). Asks c.args.code.now c.args.limit x.core.rows c.args.number) (sym c.self.view_is) (turn_asks c.args.code.now c.args.limit c.args.self.now.core c.args.number c.requires.fits c.requires.turn)
