use Rattle.std.proofs.Common.{length}
use Rattle.codegen_header.proofs.select.+push_clauses.Given as goal

abbrev pub decreases-push_clauses : goal.decreases-push_clauses
decreases-push_clauses l = length l.all.now
