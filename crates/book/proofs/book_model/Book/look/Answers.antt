use Rattle.std.proofs.Common.{◌≡◌, None, arith, refl, sym, subst}
use Rattle.std.specs.Arc.{arc_value}
use Rattle.clock_table.specs.Clocks.{loan_for, row as word_at}
use Rattle.clock_table.specs.Seats.{rows as words_of, seat_looks}
use Rattle.world_core_base.specs.Cores.{HasLease}
use Rattle.world_core_base.specs.Slots.{FitsRow}
use Rattle.book.specs.Desks.{Desk, IsSight, Sighting}
use Rattle.book.specs.Slots.{place_of}
use Rattle.book.proofs.Looks.{held_below}
use Rattle.book.proofs.Whole.{book_looks, book_words}
use Rattle.book.proofs.book_model.Book.look.Goals as goal

pub look-found-requires : goal.look-found-requires
look-found-requires g c =
    let b = c.self.inside in
    let d : Desk = record { code = arc_value b.program; limit = b.limit; core = b.core; taken = b.taken; pending = b.pending.items; traces = b.traces; traced = b.traced; lines = b.lines.items; words = words_of b.slots.seat; looks = seat_looks b.slots.seat } in
    let h = c.self.invariant in
    let n = c.args.number in
    let places = b.slots.places in
    let going : d.core.ending ≡ None = subst (λ (x : Desk). x.core.ending ≡ None) (sym c.self.view_is) c.requires.ending in
    let lent : HasLease d.core.rows n = subst (λ (x : Desk). HasLease x.core.rows n) (sym c.self.view_is) c.requires.lent in
    let word = book_words g.B.BookName.code g.B.BookName.limit d places n h going lent in
    (loan_for d.code d.limit n lent.0.state, word)

pub at-requires : goal.at-requires
at-requires g c =
    let b = c.self.inside in
    let d : Desk = record { code = arc_value b.program; limit = b.limit; core = b.core; taken = b.taken; pending = b.pending.items; traces = b.traces; traced = b.traced; lines = b.lines.items; words = words_of b.slots.seat; looks = seat_looks b.slots.seat } in
    let h = c.self.invariant in
    let n = c.args.number in
    let places = b.slots.places in
    let going : d.core.ending ≡ None = subst (λ (x : Desk). x.core.ending ≡ None) (sym c.self.view_is) c.requires.ending in
    let lent : HasLease d.core.rows n = subst (λ (x : Desk). HasLease x.core.rows n) (sym c.self.view_is) c.requires.lent in
    let word = book_words g.B.BookName.code g.B.BookName.limit d places n h going lent in
    let row = subst (FitsRow d.code d.limit) lent.1 (h.desk.fits.rows n) in
    let below = held_below d.code d.limit n c.look-found.result lent.0.state (word_at d.words (place_of places n)) row.state word c.look-found.ensures.held in
    let top = h.desk.limit in
    omega (arith, below, top)

pub invariant_of-self : goal.invariant_of-self
invariant_of-self g c =
    let b = c.self.inside in
    let d : Desk = record { code = arc_value b.program; limit = b.limit; core = b.core; taken = b.taken; pending = b.pending.items; traces = b.traces; traced = b.traced; lines = b.lines.items; words = words_of b.slots.seat; looks = seat_looks b.slots.seat } in
    let h = c.self.invariant in
    let n = c.args.number in
    let places = b.slots.places in
    let going : d.core.ending ≡ None = subst (λ (x : Desk). x.core.ending ≡ None) (sym c.self.view_is) c.requires.ending in
    let lent : HasLease d.core.rows n = subst (λ (x : Desk). HasLease x.core.rows n) (sym c.self.view_is) c.requires.lent in
    let word = book_words g.B.BookName.code g.B.BookName.limit d places n h going lent in
    let x : Sighting = record { number = n; slot = place_of places n; found = c.look-found.result } in
    let s : IsSight d x = record { row = lent.0; here = lent.1; lent = lent.2; word = word; held = c.look-found.ensures.held } in
    rw (c.raise.ensures, c.at.ensures, c.look-found.ensures.words, c.look-found.ensures.places, c.look-found.ensures.looks) (book_looks g.B.BookName.code g.B.BookName.limit d places x h s)

pub returns : goal.returns
returns g c =
    let b = c.self.inside in
    let d : Desk = record { code = arc_value b.program; limit = b.limit; core = b.core; taken = b.taken; pending = b.pending.items; traces = b.traces; traced = b.traced; lines = b.lines.items; words = words_of b.slots.seat; looks = seat_looks b.slots.seat } in
    let h = c.self.invariant in
    let n = c.args.number in
    let places = b.slots.places in
    let going : d.core.ending ≡ None = subst (λ (x : Desk). x.core.ending ≡ None) (sym c.self.view_is) c.requires.ending in
    let lent : HasLease d.core.rows n = subst (λ (x : Desk). HasLease x.core.rows n) (sym c.self.view_is) c.requires.lent in
    let word = book_words g.B.BookName.code g.B.BookName.limit d places n h going lent in
    let x : Sighting = record { number = n; slot = place_of places n; found = c.look-found.result } in
    let s : IsSight d x = record { row = lent.0; here = lent.1; lent = lent.2; word = word; held = c.look-found.ensures.held } in
    rw (← c.self.view_is, c.raise.ensures, c.at.ensures, c.look-found.ensures.words, c.look-found.ensures.looks) (x, refl, s, refl)
