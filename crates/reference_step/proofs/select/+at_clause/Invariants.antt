use Rattle.std.proofs.Common.{length}
use Rattle.reference_step.proofs.select.+at_clause.Given as goal

abbrev pub decreases-at_clause : goal.decreases-at_clause
decreases-at_clause l = length l.all.now
