use Rattle.std.specs.Prelude.{◌^◌}
use Rattle.std.specs.Arc.{arc_value}
use Rattle.clock_table.specs.Seats.{table_of}
use Rattle.worker_calls.proofs.strangers.piece_of_run.Given as goal

abbrev pub ghosts-piece_as : goal.ghosts-piece_as
ghosts-piece_as a = record { table = table_of a.start.blank.table; code = arc_value a.start.program; limit = 2 ^ 40 }
