use Rattle.std.proofs.Common.{length}
use Rattle.codegen_header.proofs.select.+table_clauses.Given as goal

abbrev pub decreases-table_clauses : goal.decreases-table_clauses
decreases-table_clauses l = length l.all.now
