use Rattle.world_core_base.proofs.Moving.{first_ok}
use Rattle.world_core_base.proofs.situation.Situation.talk.Goals as goal

pub returns-in-Some-clause-talks : goal.returns-in-Some-clause-talks
returns-in-Some-clause-talks c = first_ok c.args.code.now c.args.limit c.args.quantum c.args.self.now c.serve.new.self c.in-Some.actor.number c.in-Some.actor.clock c.serve.result c.in-Some.ensures.some c.serve.ensures.served
