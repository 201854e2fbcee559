use Rattle.std.proofs.Common.{rules}
use Rattle.book.specs.Desks.{settled_by}
use Rattle.book.proofs.Committing.{all_ended, all_waiting, kept_taken, leases_stay, looks_keep_taken, one_more, settled_keeps_run, settles_keep_taken, some_settled}
use Rattle.book.proofs.run_book.RunBook.settle_all.Goals as goal

pub invariant_of-self : goal.invariant_of-self
invariant_of-self g c = record { ours = settled_keeps_run g.B.RunName.code g.B.RunName.limit g.B.RunName.traces c.events.self.book c.settle_into.new.self c.settle_into.new.event c.settle_into.result c.settle_into.ensures.settles c.settle_into.ensures.memory c.events.self.ours }

pub returns-in_err-settle_into-clause-taken : goal.returns-in_err-settle_into-clause-taken
returns-in_err-settle_into-clause-taken g c = kept_taken c.args.self.now.book c.events.self.book c.settle_into.new.self c.events.invariant.taken (looks_keep_taken c.events.self.book c.settle_into.new.self c.in_err-settle_into.ensures.memory)

pub returns-in_err-settle_into-clause-memory : goal.returns-in_err-settle_into-clause-memory
returns-in_err-settle_into-clause-memory g c =
    let some = some_settled c.args.self.now.book c.events.self.book c.settle_into.new.self c.events.invariant.committed.0 c.events.invariant.committed.1 c.in_err-settle_into.ensures.memory in
    search (rules, some)

pub returns-in-Waiting-clause-taken : goal.returns-in-Waiting-clause-taken
returns-in-Waiting-clause-taken g c = kept_taken c.args.self.now.book c.events.self.book c.settle_into.new.self c.events.invariant.taken (settles_keep_taken c.events.self.book c.settle_into.new.self (settled_by c.in_ok-settle_into.field-0 c.settle_into.new.event) c.in_ok-settle_into.ensures.settles)

pub returns-in-Waiting-clause-settles : goal.returns-in-Waiting-clause-settles
returns-in-Waiting-clause-settles g c = all_waiting c.args.self.now.book c.events.self.book c.settle_into.new.self c.events.invariant.committed.0 c.settle_into.new.event c.in_ok-settle_into.field-0 _ c.in-Waiting.is c.events.invariant.committed.1 c.in_ok-settle_into.ensures.settles

pub returns-in-Ended-clause-settles : goal.returns-in-Ended-clause-settles
returns-in-Ended-clause-settles g c = all_ended c.args.self.now.book c.events.self.book c.settle_into.new.self c.events.invariant.committed.0 c.settle_into.new.event c.in_ok-settle_into.field-0 _ c.in-Ended.is c.events.invariant.committed.1 c.in_ok-settle_into.ensures.settles

pub events-preserved : goal.events-preserved
events-preserved g c = record {
  taken = kept_taken c.args.self.now.book c.events.self.book c.settle_into.new.self c.events.invariant.taken (settles_keep_taken c.events.self.book c.settle_into.new.self (settled_by c.in_ok-settle_into.field-0 c.settle_into.new.event) c.in_ok-settle_into.ensures.settles);
  leases = leases_stay c.args.self.now.book c.events.self.book c.settle_into.new.self c.events.invariant.leases c.settle_into.ensures.leases;
  committed = one_more c.args.self.now.book c.events.self.book c.settle_into.new.self c.events.invariant.committed.0 c.settle_into.new.event c.in_ok-settle_into.field-0 c.in-Committed.is c.events.invariant.committed.1 c.in_ok-settle_into.ensures.settles;
}
