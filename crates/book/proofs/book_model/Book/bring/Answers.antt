use Rattle.std.proofs.Common.{◌≡◌, true, false, ap, sym, subst, ◌∙◌}
use Rattle.std.specs.Prelude.{slice_set}
use Rattle.std.specs.Option.{is_some}
use Rattle.std.specs.Arc.{arc_value}
use Rattle.clock_table.specs.declared.view.Row.TheVariants.{Home}
use Rattle.clock_table.specs.Clocks.{WasLent, loan_for, row as word_at}
use Rattle.clock_table.specs.Seats.{rows as words_of, seat_looks}
use Rattle.book.specs.Desks.{Desk}
use Rattle.book.specs.Slots.{IsBook, IsTakenOut}
use Rattle.book.proofs.Whole.{book_brings, book_out, book_slot, brought_after, brought_before}
use Rattle.book.proofs.book_model.Book.bring.Goals as goal

pub take_back-requires-in-None : goal.take_back-requires-in-None
take_back-requires-in-None g c =
    let b = c.self.inside in
    let d : Desk = record { code = arc_value b.program; limit = b.limit; core = b.core; taken = b.taken; pending = b.pending.items; traces = b.traces; traced = b.traced; lines = b.lines.items; words = words_of b.slots.seat; looks = seat_looks b.slots.seat } in
    let h = c.self.invariant in
    let l = c.args.lease in
    let parts = c.into_parts-program.ensures in
    let was : WasLent (loan_for l.code l.limit l.number l.base) l.published (word_at d.words l.slot) = rw (← parts.seat.1, ← parts.seat.2, ← parts.seat.3) c.take_back.ensures.was in
    let out = book_out g.B.BookName.code g.B.BookName.limit d b.slots.places l h parts.program.1 parts.program.2 was in
    rw c.number-number.ensures (ap is_some out.row.1)

pub invariant_of-self : goal.invariant_of-self
invariant_of-self g c =
    let b = c.self.inside in
    let d : Desk = record { code = arc_value b.program; limit = b.limit; core = b.core; taken = b.taken; pending = b.pending.items; traces = b.traces; traced = b.traced; lines = b.lines.items; words = words_of b.slots.seat; looks = seat_looks b.slots.seat } in
    let h = c.self.invariant in
    let l = c.args.lease in
    let parts = c.into_parts-program.ensures in
    let was : WasLent (loan_for l.code l.limit l.number l.base) l.published (word_at d.words l.slot) = rw (← parts.seat.1, ← parts.seat.2, ← parts.seat.3) c.take_back.ensures.was in
    let out = book_out g.B.BookName.code g.B.BookName.limit d b.slots.places l h parts.program.1 parts.program.2 was in
    let new = c.take_back.new.self.places in
    let taken : IsTakenOut b.slots.places new l.number = rw (← c.number-number.ensures) (c.take_back.ensures.places (rw (c.number-number.ensures, parts.seat.2) (book_slot g.B.BookName.code g.B.BookName.limit d b.slots.places l h out))) in
    let back = book_brings g.B.BookName.code g.B.BookName.limit d b.slots.places new l h out taken parts.state parts.leads in
    let words : words_of c.take_back.new.self.seat ≡ slice_set d.words l.slot (Home l.published) = rw (← parts.seat.2, ← parts.seat.3) c.take_back.ensures.words in
    let going : is_some d.core.ending ≡ false = ap is_some (sym c.ending.ensures ∙ c.in-None.is) in
    let is = brought_before d l c.take_back-in-None.new.self (words_of c.take_back.new.self.seat) c.number-number.result c.into_parts-program.result.1 c.is_asking-parked.result going (sym out.code) (sym out.limit) c.number-number.ensures parts.present c.is_asking-parked.ensures c.take_back-in-None.ensures words in
    rw (c.take_back.ensures.looks) (subst (λ (x : Desk). IsBook g.B.BookName.code g.B.BookName.limit x new) (sym is) back)

pub invariant_of-self-in-Some-1 : goal.invariant_of-self-in-Some-1
invariant_of-self-in-Some-1 g c =
    let b = c.self.inside in
    let d : Desk = record { code = arc_value b.program; limit = b.limit; core = b.core; taken = b.taken; pending = b.pending.items; traces = b.traces; traced = b.traced; lines = b.lines.items; words = words_of b.slots.seat; looks = seat_looks b.slots.seat } in
    let h = c.self.invariant in
    let l = c.args.lease in
    let parts = c.into_parts-program.ensures in
    let was : WasLent (loan_for l.code l.limit l.number l.base) l.published (word_at d.words l.slot) = rw (← parts.seat.1, ← parts.seat.2, ← parts.seat.3) c.take_back.ensures.was in
    let out = book_out g.B.BookName.code g.B.BookName.limit d b.slots.places l h parts.program.1 parts.program.2 was in
    let new = c.take_back.new.self.places in
    let taken : IsTakenOut b.slots.places new l.number = rw (← c.number-number.ensures) (c.take_back.ensures.places (rw (c.number-number.ensures, parts.seat.2) (book_slot g.B.BookName.code g.B.BookName.limit d b.slots.places l h out))) in
    let back = book_brings g.B.BookName.code g.B.BookName.limit d b.slots.places new l h out taken parts.state parts.leads in
    let words : words_of c.take_back.new.self.seat ≡ slice_set d.words l.slot (Home l.published) = rw (← parts.seat.2, ← parts.seat.3) c.take_back.ensures.words in
    let over : is_some d.core.ending ≡ true = ap is_some (sym c.ending.ensures ∙ c.in-Some.is) in
    let is = brought_after d l (words_of c.take_back.new.self.seat) over words in
    rw (c.take_back.ensures.looks) (subst (λ (x : Desk). IsBook g.B.BookName.code g.B.BookName.limit x new) (sym is) back)

pub returns-in-None-clause-out : goal.returns-in-None-clause-out
returns-in-None-clause-out g c =
    let b = c.self.inside in
    let d : Desk = record { code = arc_value b.program; limit = b.limit; core = b.core; taken = b.taken; pending = b.pending.items; traces = b.traces; traced = b.traced; lines = b.lines.items; words = words_of b.slots.seat; looks = seat_looks b.slots.seat } in
    let h = c.self.invariant in
    let l = c.args.lease in
    let parts = c.into_parts-program.ensures in
    let was : WasLent (loan_for l.code l.limit l.number l.base) l.published (word_at d.words l.slot) = rw (← parts.seat.1, ← parts.seat.2, ← parts.seat.3) c.take_back.ensures.was in
    let out = book_out g.B.BookName.code g.B.BookName.limit d b.slots.places l h parts.program.1 parts.program.2 was in
    rw (← c.self.view_is) out

pub returns-in-Some-clause-out : goal.returns-in-Some-clause-out
returns-in-Some-clause-out g c =
    let b = c.self.inside in
    let d : Desk = record { code = arc_value b.program; limit = b.limit; core = b.core; taken = b.taken; pending = b.pending.items; traces = b.traces; traced = b.traced; lines = b.lines.items; words = words_of b.slots.seat; looks = seat_looks b.slots.seat } in
    let h = c.self.invariant in
    let l = c.args.lease in
    let parts = c.into_parts-program.ensures in
    let was : WasLent (loan_for l.code l.limit l.number l.base) l.published (word_at d.words l.slot) = rw (← parts.seat.1, ← parts.seat.2, ← parts.seat.3) c.take_back.ensures.was in
    let out = book_out g.B.BookName.code g.B.BookName.limit d b.slots.places l h parts.program.1 parts.program.2 was in
    rw (← c.self.view_is) out
