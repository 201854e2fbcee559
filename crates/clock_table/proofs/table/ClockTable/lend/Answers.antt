use Rattle.std.proofs.Common.{ap, ◌∙◌, slice_set}
use Rattle.std.proofs.lemmas.List.{set-set}
use Rattle.clock_table.specs.declared.view.Row.TheVariants.{Lent}
use Rattle.clock_table.specs.Clocks.{rows_of, looks_of, loan_for}
use Rattle.clock_table.proofs.Moves.{stores_as}
use Rattle.clock_table.proofs.table.ClockTable.lend.Goals as goal

pub store-requires : goal.store-requires
store-requires c = (
  rw c.deref.ensures c.requires.table,
  rw (c.deref.ensures, ← c.requires.table, ← c.args.seat.now.whole) c.requires.slot,
  stores_as (looks_of c.args.seat.now.seat.me.0) _ c.args.seat.now.seat.id c.args.slot c.time-clock.result c.args.seat.now.seat.me (rows_of c.args.seat.now.seat.me.0) c.args.seat.now.is_desk c.requires.slot c.requires.free,
)

pub returns-clause-row : goal.returns-clause-row
returns-clause-row c = ap (λ m. rows_of m.0) c.cut-lease.ensures.desk ∙ ap (λ rs. slice_set rs c.args.slot (Lent (loan_for c.args.code.now c.args.limit c.args.number c.args.state.now) c.args.state.now.clock)) (ap rows_of c.store.ensures.2.1) ∙ set-set (rows_of c.args.seat.now.seat.me.0) c.args.slot _ _
