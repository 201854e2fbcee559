use Rattle.std.proofs.Common.{None, rules}
use Rattle.one_thread.proofs.Falling.{ended_unless, event_left}
use Rattle.one_thread.proofs.Moves.{ok_more}
use Rattle.one_thread.proofs.history.next_event.Goals as goal

pub returns-clause-ended : goal.returns-clause-ended
returns-clause-ended g c = ok_more c.event_before.result c.event_before.ensures.falls (λ found falls. ended_unless found c.args.run.now c.event_before.new.run falls)

pub returns-clause-falls : goal.returns-clause-falls
returns-clause-falls g c = ok_more c.event_before.result c.event_before.ensures.falls (λ found falls. event_left None found c.args.run.now c.event_before.new.run (search rules) falls)
