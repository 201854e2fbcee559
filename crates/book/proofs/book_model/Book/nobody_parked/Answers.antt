use Rattle.std.proofs.Common.{refl, sym, subst}
use Rattle.std.proofs.lemmas.Bool.{true≢false}
use Rattle.std.specs.Arc.{arc_value}
use Rattle.clock_table.specs.Seats.{rows as words_of, seat_looks}
use Rattle.world_core_base.specs.Slots.{IsAwake, IsNobodyAwake}
use Rattle.book.specs.Desks.{Desk, IsDesk}
use Rattle.book.proofs.Books.{dead_desk}
use Rattle.book.proofs.Settling.{seen_only, waits_lent, waits_unlent}
use Rattle.book.proofs.Whole.{looks_leases, looks_none}
use Rattle.book.proofs.book_model.Book.nobody_parked.Goals as goal

pub returns-in_default-clause-settles : goal.returns-in_default-clause-settles
returns-in_default-clause-settles g c =
    let b = c.self.inside in
    let d : Desk = record { code = arc_value b.program; limit = b.limit; core = b.core; taken = b.taken; pending = b.pending.items; traces = b.traces; traced = b.traced; lines = b.lines.items; words = words_of b.slots.seat; looks = seat_looks b.slots.seat } in
    let now = c.args.self.now in
    let nobody : IsNobodyAwake d.core.rows = c.in_default.ensures in
    λ event. (refl, dead_desk now (subst IsDesk c.self.view_is c.self.invariant.desk) c.requires.ending (subst (λ (x : Desk). IsNobodyAwake x.core.rows) c.self.view_is nobody))

pub returns-then-not-is_lent-clause-settles : goal.returns-then-not-is_lent-clause-settles
returns-then-not-is_lent-clause-settles g c =
    let b = c.self.inside in
    let d : Desk = record { code = arc_value b.program; limit = b.limit; core = b.core; taken = b.taken; pending = b.pending.items; traces = b.traces; traced = b.traced; lines = b.lines.items; words = words_of b.slots.seat; looks = seat_looks b.slots.seat } in
    let n = c.in-Some.number in
    let awake : IsAwake d.core.rows n = c.in-Some.ensures in
    λ event. waits_unlent c.args.self.now n (subst IsDesk c.self.view_is c.self.invariant.desk) c.requires.ending c.requires.parked (subst (λ (x : Desk). IsAwake x.core.rows n) c.self.view_is awake) (λ lent. true≢false (sym (c.if-not-is_lent.ensures.1 lent)))

pub returns-clause-settles : goal.returns-clause-settles
returns-clause-settles g c =
    let b = c.self.inside in
    let d : Desk = record { code = arc_value b.program; limit = b.limit; core = b.core; taken = b.taken; pending = b.pending.items; traces = b.traces; traced = b.traced; lines = b.lines.items; words = words_of b.slots.seat; looks = seat_looks b.slots.seat } in
    let n = c.in-Some.number in
    let awake : IsAwake d.core.rows n = c.in-Some.ensures in
    λ event. waits_lent c.args.self.now c.look.new.self n (subst IsDesk c.self.view_is c.self.invariant.desk) c.requires.ending c.requires.parked (subst (λ (x : Desk). IsAwake x.core.rows n) c.self.view_is awake) c.look.ensures

pub returns-clause-leases : goal.returns-clause-leases
returns-clause-leases g c =
    let old = c.args.self.now in
    looks_leases old c.look.new.self (seen_only old old c.look.new.self c.in-Some.number (looks_none old) c.look.ensures)
