use Rattle.std.proofs.Common.{◌≡◌, Some, false, ap, refl, sym, ◌∙◌}
use Rattle.std.specs.Prelude.{slice_set}
use Rattle.std.specs.Arc.{arc_value}
use Rattle.bytecode.specs.Code.{Code}
use Rattle.clock_table.specs.declared.view.Row.TheVariants.{Lent}
use Rattle.clock_table.specs.Clocks.{loan_for}
use Rattle.clock_table.specs.Seats.{lease_slot, rows as words_of, seat_looks}
use Rattle.world_core_base.specs.Cores.{CoreValue, IsFreeIn}
use Rattle.world_core_base.specs.Slots.{Rows, back_row, lent_row}
use Rattle.book.specs.Desks.{Desk, Held, lent_desk}
use Rattle.book.proofs.Books.{lease_is_lent}
use Rattle.book.proofs.Whole.{book_lends, book_places, book_unplaced, taken_back}
use Rattle.world_core_base.proofs.Others.{still_awake}
use Rattle.book.proofs.book_model.Book.lend.Goals as goal

pub take_back-requires : goal.take_back-requires
take_back-requires g c =
    let core = c.self.inside.core in
    let n = c.in-Some.number in
    let s = c.in-Some.state in
    let lent : c.lend_least.new.self ≡ record core { rows = slice_set core.rows n (Some (lent_row s)) } = c.in-Some.ensures.lent in
    rw lent (still_awake core.rows n s (lent_row s) c.in-Some.ensures.free)

pub lend-requires-clause-unplaced : goal.lend-requires-clause-unplaced
lend-requires-clause-unplaced g c =
    let b = c.self.inside in
    let d : Desk = record { code = arc_value b.program; limit = b.limit; core = b.core; taken = b.taken; pending = b.pending.items; traces = b.traces; traced = b.traced; lines = b.lines.items; words = words_of b.slots.seat; looks = seat_looks b.slots.seat } in
    book_unplaced g.B.BookName.code g.B.BookName.limit d b.slots.places c.in-Some.number c.in-Some.state c.self.invariant c.in-Some.ensures.free

pub invariant_of-self-in-Ok : goal.invariant_of-self-in-Ok
invariant_of-self-in-Ok g c =
    let b = c.self.inside in
    let d : Desk = record { code = arc_value b.program; limit = b.limit; core = b.core; taken = b.taken; pending = b.pending.items; traces = b.traces; traced = b.traced; lines = b.lines.items; words = words_of b.slots.seat; looks = seat_looks b.slots.seat } in
    let h = c.self.invariant in
    let n = c.in-Some.number in
    let s = c.in-Some.state in
    let free : IsFreeIn d.core.rows n s = c.in-Some.ensures.free in
    let lent : c.lend_least.new.self ≡ record d.core { rows = slice_set d.core.rows n (Some (lent_row s)) } = c.in-Some.ensures.lent in
    let slot = lease_slot c.in-Ok.seat in
    let l : Held = record { code = arc_value c.in-Ok.program; limit = b.limit; number = n; base = s; present = s; slot = slot; published = s.clock } in
    let words : words_of c.lend.new.self.seat ≡ (lent_desk d l).words = c.in-Ok.ensures.words ∙ ap (λ (code : Code). slice_set d.words slot (Lent (loan_for code d.limit n s) s.clock)) (sym h.code_is) in
    rw (lent, words, c.in-Ok.ensures.looks) (book_lends g.B.BookName.code g.B.BookName.limit d b.slots.places c.lend.new.self.places l h free c.in-Ok.ensures.free.0 c.in-Ok.ensures.free.1 c.in-Ok.ensures.place)

pub invariant_of-self-in-Err : goal.invariant_of-self-in-Err
invariant_of-self-in-Err g c =
    let b = c.self.inside in
    let d : Desk = record { code = arc_value b.program; limit = b.limit; core = b.core; taken = b.taken; pending = b.pending.items; traces = b.traces; traced = b.traced; lines = b.lines.items; words = words_of b.slots.seat; looks = seat_looks b.slots.seat } in
    let h = c.self.invariant in
    let n = c.in-Some.number in
    let s = c.in-Some.state in
    let free : IsFreeIn d.core.rows n s = c.in-Some.ensures.free in
    let lent : c.lend_least.new.self ≡ record d.core { rows = slice_set d.core.rows n (Some (lent_row s)) } = c.in-Some.ensures.lent in
    let core : c.take_back.new.self ≡ d.core = c.take_back.ensures ∙ ap (λ (core : CoreValue). record core { rows = slice_set core.rows n (Some (back_row s false)) }) lent ∙ ap (λ (rows : Rows). record d.core { rows = rows }) (taken_back d.core.rows n s free) in
    rw (core, c.in-Err.ensures.memory.0, c.in-Err.ensures.looks) (book_places g.B.BookName.code g.B.BookName.limit d b.slots.places c.lend.new.self.places c.in-Err.ensures.memory.1 h)

pub returns-in-Ok-clause-lease : goal.returns-in-Ok-clause-lease
returns-in-Ok-clause-lease g c =
    let b = c.self.inside in
    let d : Desk = record { code = arc_value b.program; limit = b.limit; core = b.core; taken = b.taken; pending = b.pending.items; traces = b.traces; traced = b.traced; lines = b.lines.items; words = words_of b.slots.seat; looks = seat_looks b.slots.seat } in
    let h = c.self.invariant in
    let n = c.in-Some.number in
    let s = c.in-Some.state in
    let free : IsFreeIn d.core.rows n s = c.in-Some.ensures.free in
    let lent : c.lend_least.new.self ≡ record d.core { rows = slice_set d.core.rows n (Some (lent_row s)) } = c.in-Some.ensures.lent in
    let slot = lease_slot c.in-Ok.seat in
    let l : Held = record { code = arc_value c.in-Ok.program; limit = b.limit; number = n; base = s; present = s; slot = slot; published = s.clock } in
    let words : words_of c.lend.new.self.seat ≡ (lent_desk d l).words = c.in-Ok.ensures.words ∙ ap (λ (code : Code). slice_set d.words slot (Lent (loan_for code d.limit n s) s.clock)) (sym h.code_is) in
    rw (c.new-lease.ensures, lent, words, c.in-Ok.ensures.looks, ← c.self.view_is) (free, refl, refl, lease_is_lent d l free (c.in-Ok.ensures.program ∙ sym h.code_is) refl c.in-Ok.ensures.free.0)

pub returns-in-Err-clause-memory : goal.returns-in-Err-clause-memory
returns-in-Err-clause-memory g c =
    let b = c.self.inside in
    let d : Desk = record { code = arc_value b.program; limit = b.limit; core = b.core; taken = b.taken; pending = b.pending.items; traces = b.traces; traced = b.traced; lines = b.lines.items; words = words_of b.slots.seat; looks = seat_looks b.slots.seat } in
    let h = c.self.invariant in
    let n = c.in-Some.number in
    let s = c.in-Some.state in
    let free : IsFreeIn d.core.rows n s = c.in-Some.ensures.free in
    let lent : c.lend_least.new.self ≡ record d.core { rows = slice_set d.core.rows n (Some (lent_row s)) } = c.in-Some.ensures.lent in
    let core : c.take_back.new.self ≡ d.core = c.take_back.ensures ∙ ap (λ (core : CoreValue). record core { rows = slice_set core.rows n (Some (back_row s false)) }) lent ∙ ap (λ (rows : Rows). record d.core { rows = rows }) (taken_back d.core.rows n s free) in
    (λ i. record d { core = core i; words = c.in-Err.ensures.memory.0 i; looks = c.in-Err.ensures.looks i }) ∙ c.self.view_is
