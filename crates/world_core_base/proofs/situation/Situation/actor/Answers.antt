use Rattle.std.proofs.Common.{◌∙◌, sym}
use Rattle.world_core_base.proofs.Moving.{actor_is}
use Rattle.world_core_base.proofs.situation.Situation.actor.Goals as goal

pub returns-in-None-clause-some : goal.returns-in-None-clause-some
returns-in-None-clause-some c = actor_is c.args.self.now _ c.in-Some.key c.self.view_is c.requires (sym c.least_among.ensures ∙ c.in-Some.is) c.in-None.ensures
