use Rattle.std.proofs.Common.{◌≡◌, [], length, vec_len, ℕ, ap, ◌∙◌}
use Rattle.std.specs.Arc.{arc_value}
use Rattle.clock_table.specs.Seats.{rows as words_of, seat_looks}
use Rattle.std.specs.Global.{Vec}
use Rattle.book.specs.Desks.{Desk}
use Rattle.book.proofs.Books.{pending_stands}
use Rattle.book.proofs.Whole.{book_takes_output}
use Rattle.book.proofs.book_model.Book.take_output.Goals as goal

pub invariant_of-self : goal.invariant_of-self
invariant_of-self g c =
    let b = c.self.inside in
    let d : Desk = record { code = arc_value b.program; limit = b.limit; core = b.core; taken = b.taken; pending = b.pending.items; traces = b.traces; traced = b.traced; lines = b.lines.items; words = words_of b.slots.seat; looks = seat_looks b.slots.seat } in
    let count : c.len.result ≡ length b.pending.items = c.len.ensures ∙ ap (λ (v : Vec ℕ). vec_len v) c.replace-bytes.ensures.value ∙ b.pending.ok.0 in
    let left : c.replace-bytes.new.dest.items ≡ [] = ap (λ (v : Vec ℕ). v.items) c.replace-bytes.ensures.after ∙ c.new.ensures.items in
    book_takes_output g.B.BookName.code g.B.BookName.limit d b.slots.places c.len.result c.replace-bytes.new.dest.items c.self.invariant count left

pub returns-clause-stands : goal.returns-clause-stands
returns-clause-stands g c =
    let b = c.self.inside in
    let d : Desk = record { code = arc_value b.program; limit = b.limit; core = b.core; taken = b.taken; pending = b.pending.items; traces = b.traces; traced = b.traced; lines = b.lines.items; words = words_of b.slots.seat; looks = seat_looks b.slots.seat } in
    rw (c.replace-bytes.ensures.value, ← c.self.view_is) (pending_stands d c.self.invariant.desk)
