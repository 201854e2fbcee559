use Rattle.std.proofs.Common.{◌≡◌, false, sym, subst}
use Rattle.std.specs.Prelude.{IfOk, OnErr}
use Rattle.std.specs.Arc.{arc_value}
use Rattle.bytecode.specs.Code.{Code}
use Rattle.clock_table.specs.Seats.{rows as words_of, seat_looks}
use Rattle.world_core_base.specs.Talking.{FailsTalk, Talks}
use Rattle.book.specs.Desks.{Desk}
use Rattle.book.proofs.Talking.{talks_keep}
use Rattle.book.proofs.book_model.Book.talk.Goals as goal

pub invariant_of-self : goal.invariant_of-self
invariant_of-self g c =
    let b = c.self.inside in
    let d : Desk = record { code = arc_value b.program; limit = b.limit; core = b.core; taken = b.taken; pending = b.pending.items; traces = b.traces; traced = b.traced; lines = b.lines.items; words = words_of b.slots.seat; looks = seat_looks b.slots.seat } in
    let core = c.talk.new.self in
    let silent : d.traces ≡ false = subst (λ (x : Desk). x.traces ≡ false) (sym c.self.view_is) c.requires in
    let talks = subst (λ (code : Code). IfOk c.talk.result (λ came. Talks code d.limit c.args.quantum c.args.moves d.core came core)) c.deref.ensures c.talk.ensures.talks in
    let fails = subst (λ (code : Code). OnErr c.talk.result (FailsTalk code d.limit c.args.quantum d.core core)) c.deref.ensures c.talk.ensures.memory in
    (talks_keep g.B.BookName.code g.B.BookName.limit d b.slots.places silent c.args.quantum c.args.moves c.talk.result core c.self.invariant talks fails).book

pub returns-clause-leases : goal.returns-clause-leases
returns-clause-leases g c =
    let b = c.self.inside in
    let d : Desk = record { code = arc_value b.program; limit = b.limit; core = b.core; taken = b.taken; pending = b.pending.items; traces = b.traces; traced = b.traced; lines = b.lines.items; words = words_of b.slots.seat; looks = seat_looks b.slots.seat } in
    let core = c.talk.new.self in
    let silent : d.traces ≡ false = subst (λ (x : Desk). x.traces ≡ false) (sym c.self.view_is) c.requires in
    let talks = subst (λ (code : Code). IfOk c.talk.result (λ came. Talks code d.limit c.args.quantum c.args.moves d.core came core)) c.deref.ensures c.talk.ensures.talks in
    let fails = subst (λ (code : Code). OnErr c.talk.result (FailsTalk code d.limit c.args.quantum d.core core)) c.deref.ensures c.talk.ensures.memory in
    let kept = talks_keep g.B.BookName.code g.B.BookName.limit d b.slots.places silent c.args.quantum c.args.moves c.talk.result core c.self.invariant talks fails in
    rw (← c.self.view_is) kept.leases

pub returns-clause-memory : goal.returns-clause-memory
returns-clause-memory g c =
    let b = c.self.inside in
    let d : Desk = record { code = arc_value b.program; limit = b.limit; core = b.core; taken = b.taken; pending = b.pending.items; traces = b.traces; traced = b.traced; lines = b.lines.items; words = words_of b.slots.seat; looks = seat_looks b.slots.seat } in
    let fails = subst (λ (code : Code). OnErr c.talk.result (FailsTalk code d.limit c.args.quantum d.core c.talk.new.self)) c.deref.ensures c.talk.ensures.memory in
    rw (← c.self.view_is) fails
