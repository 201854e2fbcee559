use Rattle.std.proofs.Common.{subst}
use Rattle.std.specs.Arc.{arc_value}
use Rattle.bytecode.specs.Rules.{IsVerified}
use Rattle.book.proofs.Whole.{book_opens}
use Rattle.book.proofs.book_model.Book.open_tracing.Goals as goal

pub invariant_of-result : goal.invariant_of-result
invariant_of-result g c =
    let verified : IsVerified (arc_value c.args.program) = subst IsVerified c.deref.ensures c.in_ok-core.ensures.verified in
    let s = c.in_ok-slots.ensures in
    let book = book_opens (arc_value c.args.program) c.args.limit c.args.traces c.in_ok-slots.slots.places s.places c.if-limit-gt-LAST.false verified in
    rw (c.new-2.ensures.items, c.new-3.ensures.items, c.in_ok-core.ensures.core, c.deref.ensures, s.words, s.looks) (record { desk = book.desk; tied = book.tied; code_is = c.requires.0; limit_is = c.requires.1 })
