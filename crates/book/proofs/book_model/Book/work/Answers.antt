use Rattle.std.proofs.Common.{◌≡◌, None, inl, inr, subst, sym}
use Rattle.std.specs.Arc.{arc_value}
use Rattle.bytecode.specs.Code.{Code}
use Rattle.clock_table.specs.Seats.{rows as words_of, seat_looks}
use Rattle.world_core_base.specs.Cores.{CoreValue, Works, to_lend}
use Rattle.book.specs.Desks.{Desk, KeepsLeases}
use Rattle.book.specs.Slots.{IsBook}
use Rattle.book.proofs.Whole.{book_works, works_as, works_leases}
use Rattle.book.proofs.book_model.Book.work.Goals as goal

pub invariant_of-self : goal.invariant_of-self
invariant_of-self g c =
    let b = c.self.inside in
    let d : Desk = record { code = arc_value b.program; limit = b.limit; core = b.core; taken = b.taken; pending = b.pending.items; traces = b.traces; traced = b.traced; lines = b.lines.items; words = words_of b.slots.seat; looks = seat_looks b.slots.seat } in
    let core = c.work_least.new.self in
    let is = c.work_least.ensures in
    let places = b.slots.places in
    elim (works_as c.work_least.result ((to_lend d.core ≡ None) × (core ≡ d.core)) (λ answer. Works c.deref.result.now d.limit c.args.quantum d.core answer core) is.none is.works is.memory) [
      | inl nobody ↦ subst (λ (x : CoreValue). IsBook g.B.BookName.code g.B.BookName.limit (record d { core = x }) places) (sym nobody.1) c.self.invariant
      | inr worked ↦ book_works g.B.BookName.code g.B.BookName.limit d places c.args.quantum worked.0 core c.self.invariant (subst (λ (code : Code). Works code d.limit c.args.quantum d.core worked.0 core) c.deref.ensures worked.1)
    ]

pub returns-clause-leases : goal.returns-clause-leases
returns-clause-leases g c =
    let b = c.self.inside in
    let d : Desk = record { code = arc_value b.program; limit = b.limit; core = b.core; taken = b.taken; pending = b.pending.items; traces = b.traces; traced = b.traced; lines = b.lines.items; words = words_of b.slots.seat; looks = seat_looks b.slots.seat } in
    let core = c.work_least.new.self in
    let is = c.work_least.ensures in
    let kept : KeepsLeases d (record d { core = core }) = elim (works_as c.work_least.result ((to_lend d.core ≡ None) × (core ≡ d.core)) (λ answer. Works c.deref.result.now d.limit c.args.quantum d.core answer core) is.none is.works is.memory) [
      | inl nobody ↦ subst (λ (x : CoreValue). KeepsLeases d (record d { core = x })) (sym nobody.1) (λ l out. out)
      | inr worked ↦ works_leases d c.args.quantum worked.0 core (subst (λ (code : Code). Works code d.limit c.args.quantum d.core worked.0 core) c.deref.ensures worked.1)
    ] in
    rw (← c.self.view_is) kept
