use Rattle.std.proofs.Common.{length}
use Rattle.reference_step.proofs.select.+cases_of.Given as goal

abbrev pub decreases-cases_of : goal.decreases-cases_of
decreases-cases_of l = length l.all.now
