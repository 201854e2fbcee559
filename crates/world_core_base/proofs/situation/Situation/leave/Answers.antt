use Rattle.std.proofs.Common.{refl}
use Rattle.word.specs.declared.request.Event.{Event as Recorded}
use Rattle.word.specs.declared.request.EventOutcome.TheVariants as came
use Rattle.word.specs.declared.request.Reply.TheVariants as replies
use Rattle.world_core_base.proofs.Events.{end_quiet, made_ended}
use Rattle.world_core_base.proofs.situation.Situation.leave.Goals as goal

pub returns-clause-performs : goal.returns-clause-performs
returns-clause-performs c =
    let event : Recorded = record c.args.event.now { outcome = came.Done replies.Nothing } in
    (made_ended c.args.code.now c.args.limit c.args.self.now event c.take_out-ended.new.self c.requires.asked c.requires.fits c.requires.events c.requires.end refl c.requires.alone c.take_out-ended.ensures).performs

pub returns-clause-bytes : goal.returns-clause-bytes
returns-clause-bytes c = end_quiet c.args.event.now.request c.requires.end

pub returns-clause-fits : goal.returns-clause-fits
returns-clause-fits c =
    let event : Recorded = record c.args.event.now { outcome = came.Done replies.Nothing } in
    (made_ended c.args.code.now c.args.limit c.args.self.now event c.take_out-ended.new.self c.requires.asked c.requires.fits c.requires.events c.requires.end refl c.requires.alone c.take_out-ended.ensures).fits
