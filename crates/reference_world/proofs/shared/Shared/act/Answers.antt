use Rattle.word.specs.Views.{request_of}
use Rattle.std.proofs.Common.{ap}
use Rattle.reference_world.proofs.Acting.{acted, acted_at, acted_for_all}
use Rattle.reference_world.proofs.shared.Shared.act.Goals as goal

pub returns-in-Send-clause-acts : goal.returns-in-Send-clause-acts
returns-in-Send-clause-acts c = acted c.send.result c.args.self.now _ c.args.actor.number c.args.actor.clock _ _ c.send.new.self c.self-in-Send.view_is (ap request_of c.in-Send.is) c.send.ensures

pub returns-in-Receive-clause-acts : goal.returns-in-Receive-clause-acts
returns-in-Receive-clause-acts c = acted c.receive.result c.args.self.now _ c.args.actor.number c.args.actor.clock _ _ c.receive.new.self c.self-in-Receive.view_is (ap request_of c.in-Receive.is) c.receive.ensures

pub returns-in-Close-clause-acts : goal.returns-in-Close-clause-acts
returns-in-Close-clause-acts c = acted_for_all c.close.result c.args.self.now _ c.args.actor.number c.args.actor.clock _ _ c.close.new.self c.self-in-Close.view_is (ap request_of c.in-Close.is) c.close.ensures

pub returns-in-Select-clause-acts : goal.returns-in-Select-clause-acts
returns-in-Select-clause-acts c = acted_at c.select.result c.args.self.now _ c.args.actor.number c.args.actor.clock _ _ c.select.new.self c.self-in-Select.view_is (ap request_of c.in-Select.is) c.select.ensures
