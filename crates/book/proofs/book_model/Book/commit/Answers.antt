use Rattle.std.proofs.Common.{◌≡◌, ◌++◌, ◌<◌, ◌≤◌, ◌^◌, List, ℕ, length, sym, subst, ap, arith, ◌∙◌}
use Rattle.std.specs.Arc.{arc_value}
use Rattle.clock_table.specs.Seats.{rows as words_of, seat_looks}
use Rattle.bytecode.specs.Code.{Code}
use Rattle.word.specs.Views.{event_of}
use Rattle.world_core_base.specs.Cores.{Performs, bytes_of}
use Rattle.world_core_base.specs.Cores.{FitsCore, HasTurn}
use Rattle.book.specs.Desks.{Desk, kept_line}
use Rattle.book.proofs.Books.{asks_at, committed, commits_keeps}
use Rattle.book.proofs.Whole.{book_commits}
use Rattle.book.proofs.book_model.Book.commit.Goals as goal

-- a vector has less than 2^63 items
few : (len cap : ℕ) (items : List ℕ) → len ≡ length items → len ≤ cap → cap < 2 ^ 63 → length items < 2 ^ 64
few len cap items is le small = omega (arith, is, le, small)

pub perform-requires-clause-asks : goal.perform-requires-clause-asks
perform-requires-clause-asks g c =
    let b = c.self.inside in
    let d : Desk = record { code = arc_value b.program; limit = b.limit; core = b.core; taken = b.taken; pending = b.pending.items; traces = b.traces; traced = b.traced; lines = b.lines.items; words = words_of b.slots.seat; looks = seat_looks b.slots.seat } in
    let turn : HasTurn d.core c.args.number = subst (λ (x : Desk). HasTurn x.core c.args.number) (sym c.self.view_is) c.requires in
    rw c.deref.ensures (asks_at d c.args.number c.self.invariant.desk turn)

pub invariant_of-self-2 : goal.invariant_of-self-2
invariant_of-self-2 g c =
    let b = c.self.inside in
    let d : Desk = record { code = arc_value b.program; limit = b.limit; core = b.core; taken = b.taken; pending = b.pending.items; traces = b.traces; traced = b.traced; lines = b.lines.items; words = words_of b.slots.seat; looks = seat_looks b.slots.seat } in
    let event = c.perform.new.event in
    let new = c.perform.new.self in
    let pending = c.perform.new.output in
    let lines = c.append_kept.new.lines in
    let turn : HasTurn d.core c.args.number = subst (λ (x : Desk). HasTurn x.core c.args.number) (sym c.self.view_is) c.requires in
    let done : Performs d.code d.limit d.core c.args.number event (bytes_of event) new = subst (λ (code : Code). Performs code d.limit d.core c.args.number event (bytes_of event) new) c.deref.ensures c.in_ok-perform.ensures.performs in
    let fits : FitsCore d.code d.limit new = subst (λ (code : Code). FitsCore code d.limit new) c.deref.ensures c.in_ok-perform.ensures.fits in
    let line : lines.items ≡ b.lines.items ++ kept_line b.traces (event_of event) = c.append_kept.ensures ∙ ap (λ (ls : List ℕ). ls ++ kept_line b.traces (event_of event)) c.reserve_kept.ensures.items in
    let room : length pending.items < 2 ^ 64 = few pending.len pending.cap pending.items pending.ok.0 pending.ok.1 pending.small in
    let trace_room : length lines.items < 2 ^ 64 = few lines.len lines.cap lines.items lines.ok.0 lines.ok.1 lines.small in
    let r = committed d c.args.number event new pending.items lines.items c.self.invariant.desk turn done fits c.in_ok-perform.ensures.output line room trace_room in
    book_commits g.B.BookName.code g.B.BookName.limit d b.slots.places event new pending.items lines.items c.self.invariant r.0 r.1

pub returns : goal.returns
returns g c =
    let b = c.self.inside in
    let d : Desk = record { code = arc_value b.program; limit = b.limit; core = b.core; taken = b.taken; pending = b.pending.items; traces = b.traces; traced = b.traced; lines = b.lines.items; words = words_of b.slots.seat; looks = seat_looks b.slots.seat } in
    let event = c.perform.new.event in
    let new = c.perform.new.self in
    let pending = c.perform.new.output in
    let lines = c.append_kept.new.lines in
    let turn : HasTurn d.core c.args.number = subst (λ (x : Desk). HasTurn x.core c.args.number) (sym c.self.view_is) c.requires in
    let done : Performs d.code d.limit d.core c.args.number event (bytes_of event) new = subst (λ (code : Code). Performs code d.limit d.core c.args.number event (bytes_of event) new) c.deref.ensures c.in_ok-perform.ensures.performs in
    let fits : FitsCore d.code d.limit new = subst (λ (code : Code). FitsCore code d.limit new) c.deref.ensures c.in_ok-perform.ensures.fits in
    let line : lines.items ≡ b.lines.items ++ kept_line b.traces (event_of event) = c.append_kept.ensures ∙ ap (λ (ls : List ℕ). ls ++ kept_line b.traces (event_of event)) c.reserve_kept.ensures.items in
    let room : length pending.items < 2 ^ 64 = few pending.len pending.cap pending.items pending.ok.0 pending.ok.1 pending.small in
    let trace_room : length lines.items < 2 ^ 64 = few lines.len lines.cap lines.items lines.ok.0 lines.ok.1 lines.small in
    let r = committed d c.args.number event new pending.items lines.items c.self.invariant.desk turn done fits c.in_ok-perform.ensures.output line room trace_room in
    let after : Desk = record d { core = new; pending = pending.items; lines = lines.items } in
    rw (← c.self.view_is) (record { commits = r.1; leases = commits_keeps d after event c.self.invariant.desk r.1; memory = tt })
