use Rattle.std.specs.Arc.{arc_value}
use Rattle.clock_table.specs.Seats.{table_of}
use Rattle.recorder.proofs.recorder_loop.record.Given as goal

abbrev pub ghosts-record_named : goal.ghosts-record_named
ghosts-record_named a = record { table = table_of a.blank.table; code = arc_value a.program; limit = a.limit }
