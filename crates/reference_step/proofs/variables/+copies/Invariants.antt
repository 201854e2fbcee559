use Rattle.std.proofs.Common.{length}
use Rattle.reference_step.proofs.variables.+copies.Given as goal

abbrev pub decreases-copies : goal.decreases-copies
decreases-copies l = length l.names.now
