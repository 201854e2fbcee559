use Rattle.std.proofs.Common.{length}
use Rattle.reference_step.proofs.select.+default_of.Given as goal

abbrev pub decreases-default_of : goal.decreases-default_of
decreases-default_of l = length l.all.now
