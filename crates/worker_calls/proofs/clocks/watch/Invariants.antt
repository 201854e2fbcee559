use Rattle.std.specs.Prelude.{◌≡◌, ◌<◌, length}
use Rattle.clock_table.specs.Seats.{rows, seat_table, table_of}
use Rattle.worker_calls.proofs.clocks.watch.Given as goal

abbrev pub invariant-loop : goal.invariant-loop
invariant-loop l = record {
  table : seat_table l.seat ≡ table_of l.table;
  slot : 7 < length (rows l.seat);
}
