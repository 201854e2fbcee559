use Rattle.std.proofs.Common.{length}
use Rattle.reference.proofs.call.+parameters.Given as goal

abbrev pub decreases-parameters : goal.decreases-parameters
decreases-parameters l = length l.groups.now
