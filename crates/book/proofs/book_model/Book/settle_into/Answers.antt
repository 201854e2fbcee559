use Rattle.std.proofs.Common.{◌+◌, length, refl, sym, ◌∙◌, subst}
use Rattle.std.specs.Arc.{arc_value}
use Rattle.clock_table.specs.Seats.{rows as words_of, seat_looks}
use Rattle.book.specs.Desks.{Desk, IsEnd, KeepsLeases}
use Rattle.book.proofs.Books.{ended_desk}
use Rattle.book.proofs.Whole.{looks_leases}
use Rattle.book.proofs.book_model.Book.settle_into.Goals as goal

pub returns-in-Some-clause-settles : goal.returns-in-Some-clause-settles
returns-in-Some-clause-settles g c =
    let b = c.self.inside in
    let d : Desk = record { code = arc_value b.program; limit = b.limit; core = b.core; taken = b.taken; pending = b.pending.items; traces = b.traces; traced = b.traced; lines = b.lines.items; words = words_of b.slots.seat; looks = seat_looks b.slots.seat } in
    let e = c.in-Some.end in
    (refl, subst (λ (x : Desk). IsEnd x.code x.limit x.traces x.core.events (x.taken + length x.pending) (x.traced + length x.lines) e) c.self.view_is (ended_desk d e c.self.invariant.desk (sym c.ending.ensures ∙ c.in-Some.is)))

pub returns-in-Some-first_before-clause-leases : goal.returns-in-Some-first_before-clause-leases
returns-in-Some-first_before-clause-leases g c = looks_leases c.args.self.now c.first_before.new.self c.in-Some-first_before.ensures.some.only

pub returns-in_err-commit-clause-leases : goal.returns-in_err-commit-clause-leases
returns-in_err-commit-clause-leases g c = subst (KeepsLeases c.args.self.now) (sym c.in_err-commit.ensures.memory) (looks_leases c.args.self.now c.first_before.new.self c.in_default-first_before.ensures.none.0)

pub returns-clause-settles : goal.returns-clause-settles
returns-clause-settles g c = (c.first_before.new.self, c.in_default-first_before.ensures.none.0, c.in_ok-commit.ensures.commits)

pub returns-clause-leases : goal.returns-clause-leases
returns-clause-leases g c = λ l out. c.in_ok-commit.ensures.leases l (looks_leases c.args.self.now c.first_before.new.self c.in_default-first_before.ensures.none.0 l out)
