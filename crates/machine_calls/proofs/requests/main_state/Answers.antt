use Rattle.std.proofs.Common.{subst}
use Rattle.turn_rule.specs.declared.Row.{Row}
use Rattle.std.specs.Prelude.{Option}
use Rattle.world_core_base.specs.Slots.{FitsRow, State}
use Rattle.machine_calls.proofs.requests.main_state.Goals as goal

pub returns-in-Some : goal.returns-in-Some
returns-in-Some c =
    let fits = c.in_ok-core.ensures.fits c.args.limit c.requires in
    (subst (λ (o : Option (Row State)). FitsRow c.args.program.now c.args.limit o) c.in-Some.ensures.free (fits.rows _)).state
