use Rattle.std.proofs.Common.{subst}
use Rattle.book.specs.Desks.{Settles, settled_by}
use Rattle.book.specs.declared.settled.Reached.{Reached}
use Rattle.book.proofs.book_model.Book.settle.Goals as goal

pub returns-in-Committed-clause-settles : goal.returns-in-Committed-clause-settles
returns-in-Committed-clause-settles g c =
    subst (λ (r : Reached). Settles c.args.self.now (settled_by r c.settle_into.new.event) c.settle_into.new.self) c.in-Committed.is c.in_ok-settle_into.ensures.settles

pub returns-in-Waiting-clause-settles : goal.returns-in-Waiting-clause-settles
returns-in-Waiting-clause-settles g c =
    subst (λ (r : Reached). Settles c.args.self.now (settled_by r c.settle_into.new.event) c.settle_into.new.self) c.in-Waiting.is c.in_ok-settle_into.ensures.settles

pub returns-in-Ended-clause-settles : goal.returns-in-Ended-clause-settles
returns-in-Ended-clause-settles g c =
    subst (λ (r : Reached). Settles c.args.self.now (settled_by r c.settle_into.new.event) c.settle_into.new.self) c.in-Ended.is c.in_ok-settle_into.ensures.settles
