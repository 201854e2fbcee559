use Rattle.std.proofs.Common.{sym}
use Rattle.std.proofs.lemmas.Bool.{true≢false}
use Rattle.book.proofs.Settling.{waits_first}
use Rattle.book.proofs.book_model.Book.first_before.Goals as goal

pub returns-then-not-is_lent-clause-some : goal.returns-then-not-is_lent-clause-some
returns-then-not-is_lent-clause-some g c = waits_first c.args.self.now c.in-Some.number c.args.key.now c.blocker.ensures.stands c.requires.ending c.requires.least c.in-Some.ensures.blocker (λ lent. true≢false (sym (c.if-not-is_lent.ensures.1 lent)))
