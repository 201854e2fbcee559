use Rattle.clock_table.specs.Clocks.{loan_for}
use Rattle.clock_table.proofs.table.ClockTable.lend.Given as goal

abbrev pub ghosts-cut : goal.ghosts-cut
ghosts-cut a = record { slot = a.slot; loan = loan_for a.code.now a.limit a.number a.state.now }
