use Rattle.std.proofs.Common.{rules}
use Rattle.book.specs.Desks.{settled_by}
use Rattle.book.proofs.Committing.{looks_keep_taken, settled_keeps_run, settled_one, settles_keep_taken}
use Rattle.book.proofs.run_book.RunBook.settle_one.Goals as goal

pub invariant_of-self : goal.invariant_of-self
invariant_of-self g c = record { ours = settled_keeps_run g.B.RunName.code g.B.RunName.limit g.B.RunName.traces c.args.self.now.book c.settle_into.new.self c.settle_into.new.event c.settle_into.result c.settle_into.ensures.settles c.settle_into.ensures.memory c.args.self.now.ours }

pub returns-in_err-reached-clause-taken : goal.returns-in_err-reached-clause-taken
returns-in_err-reached-clause-taken g c = looks_keep_taken c.args.self.now.book c.settle_into.new.self c.in_err-reached.ensures.memory

pub returns-in-Committed-clause-taken : goal.returns-in-Committed-clause-taken
returns-in-Committed-clause-taken g c = settles_keep_taken c.args.self.now.book c.settle_into.new.self (settled_by c.in_ok-reached.reached c.settle_into.new.event) c.in_ok-reached.ensures.settles

pub returns-in-Committed-clause-settles : goal.returns-in-Committed-clause-settles
returns-in-Committed-clause-settles g c = settled_one c.args.self.now.book c.settle_into.new.self c.settle_into.new.event c.in_ok-reached.reached _ c.in_ok-reached.ensures.settles (search rules)

pub returns-in_default-clause-taken : goal.returns-in_default-clause-taken
returns-in_default-clause-taken g c = settles_keep_taken c.args.self.now.book c.settle_into.new.self (settled_by c.in_ok-reached.reached c.settle_into.new.event) c.in_ok-reached.ensures.settles

pub returns-in_default-clause-settles : goal.returns-in_default-clause-settles
returns-in_default-clause-settles g c = settled_one c.args.self.now.book c.settle_into.new.self c.settle_into.new.event c.in_ok-reached.reached _ c.in_ok-reached.ensures.settles (search rules)
