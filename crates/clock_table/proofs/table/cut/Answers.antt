use Rattle.std.proofs.Common.{ap, le_refl, subst, arith, ◌<◌}
use Rattle.atomic_table.specs.Seated.{TableId}
use Rattle.clock_table.specs.Clocks.{rows_of, looks_of, loan_for}
use Rattle.clock_table.proofs.Moves.{lends_as}
use Rattle.clock_table.proofs.table.cut.Goals as goal

pub split_seat-requires : goal.split_seat-requires
split_seat-requires g c = (
  c.requires.table,
  subst (λ (z : TableId). 0 < z.words) c.requires.table (omega (arith, c.requires.slot, c.requires.whole)),
  lends_as (looks_of c.args.seat.now.me.0) c.args.seat.now.id c.args.slot c.args.state.now.clock g.T.Terms.slot c.args.seat.now.me.0 (rows_of c.args.seat.now.me.0) (loan_for c.args.code.now c.args.limit c.args.number c.args.state.now) g.T.Terms.loan
      (ap (λ m. m.0) c.requires.desk) c.requires.terms.0 c.requires.terms.1 c.requires.slot c.requires.home (le_refl _) (0, le_refl _),
)
