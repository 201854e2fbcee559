use Rattle.std.specs.Prelude.{◌^◌}
use Rattle.std.specs.Arc.{arc_value}
use Rattle.clock_table.specs.Seats.{table_of}
use Rattle.worker_calls.proofs.books.works_in_place.Given as goal

abbrev pub ghosts-works_as : goal.ghosts-works_as
ghosts-works_as a = record { table = table_of a.start.blank.table; code = arc_value a.start.program; limit = 2 ^ 40 }
