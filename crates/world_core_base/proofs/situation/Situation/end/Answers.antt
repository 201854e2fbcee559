use Rattle.word.specs.declared.request.Event.{Event as Recorded}
use Rattle.world_core_base.specs.Cores.{ended_as}
use Rattle.world_core_base.proofs.Events.{last_quiet, made_last}
use Rattle.world_core_base.proofs.situation.Situation.end.Goals as goal

pub returns-clause-performs : goal.returns-clause-performs
returns-clause-performs c =
    let event : Recorded = record c.args.event.now { outcome = c.outcome_at.result } in
    (made_last c.args.code.now c.args.limit c.args.self.now event c.stop.new.self c.requires.asked c.requires.fits c.requires.events (ended_as c.args.end) c.args.end c.requires.last c.outcome_at.ensures c.requires.alone c.stop.ensures).performs

pub returns-clause-bytes : goal.returns-clause-bytes
returns-clause-bytes c = last_quiet c.args.event.now.request (ended_as c.args.end) c.args.end c.requires.last

pub returns-clause-fits : goal.returns-clause-fits
returns-clause-fits c =
    let event : Recorded = record c.args.event.now { outcome = c.outcome_at.result } in
    (made_last c.args.code.now c.args.limit c.args.self.now event c.stop.new.self c.requires.asked c.requires.fits c.requires.events (ended_as c.args.end) c.args.end c.requires.last c.outcome_at.ensures c.requires.alone c.stop.ensures).fits
