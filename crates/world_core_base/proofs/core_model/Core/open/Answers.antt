use Rattle.std.proofs.Common.{subst, sym}
use Rattle.world_core_base.specs.Cores.{FitsCore}
use Rattle.world_core_base.proofs.Leases.{opened_fits}
use Rattle.world_core_base.proofs.core_model.Core.open.Goals as goal

pub returns-clause-fits : goal.returns-clause-fits
returns-clause-fits c = λ limit le.
    let opened = c.in_ok-open.ensures in
    subst (FitsCore c.args.code.now limit) (sym opened.core) (opened_fits c.args.code.now limit opened.verified le)
