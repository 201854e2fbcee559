use Rattle.std.proofs.Common.{refl}
use Rattle.word.specs.declared.request.Event.{Event as Recorded}
use Rattle.word.specs.declared.request.EventOutcome.TheVariants as came
use Rattle.word.specs.declared.request.Reply.TheVariants as replies
use Rattle.word.specs.Views.{request_of}
use Rattle.world_core_base.specs.Cores.{bytes_of}
use Rattle.world_core_base.proofs.Events.{made_printed, print_below}
use Rattle.world_core_base.proofs.situation.Situation.print.Goals as goal

pub next_time-requires-clause-below : goal.next_time-requires-clause-below
next_time-requires-clause-below c =
    let ev = c.args.event.now in
    print_below c.args.code.now c.args.limit c.args.self.now ev.number ev.clock (request_of ev.request) (bytes_of ev) c.requires.asked c.requires.print

pub returns-clause-performs : goal.returns-clause-performs
returns-clause-performs c =
    let event : Recorded = record c.args.event.now { outcome = came.Done replies.Nothing } in
    (made_printed c.args.code.now c.args.limit c.args.self.now event c.go_on.new.self c.requires.asked c.requires.fits c.requires.events c.next_time.result c.requires.print refl c.requires.alone c.next_time.ensures c.go_on.ensures).performs

pub returns-clause-fits : goal.returns-clause-fits
returns-clause-fits c =
    let event : Recorded = record c.args.event.now { outcome = came.Done replies.Nothing } in
    (made_printed c.args.code.now c.args.limit c.args.self.now event c.go_on.new.self c.requires.asked c.requires.fits c.requires.events c.next_time.result c.requires.print refl c.requires.alone c.next_time.ensures c.go_on.ensures).fits
