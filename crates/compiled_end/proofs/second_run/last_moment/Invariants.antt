use Rattle.std.specs.Arc.{arc_value}
use Rattle.clock_table.specs.Seats.{table_of}
use Rattle.compiled_end.proofs.second_run.last_moment.Given as goal

abbrev pub ghosts-last_named : goal.ghosts-last_named
ghosts-last_named a = record { table = table_of a.blank.table; code = arc_value a.program; limit = a.limit }
