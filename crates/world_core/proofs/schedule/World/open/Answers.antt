use Rattle.std.proofs.Common.{sym, subst}
use Rattle.world_core_base.specs.Cores.{FitsCore}
use Rattle.world_core_base.proofs.Leases.{opened_fits}
use Rattle.world_core.proofs.schedule.World.open.Goals as goal

pub returns-clause-fits : goal.returns-clause-fits
returns-clause-fits c = subst (FitsCore c.args.code.now c.args.limit) (sym c.in_ok-open.ensures.core) (opened_fits c.args.code.now c.args.limit c.in_ok-open.ensures.verified c.requires)
