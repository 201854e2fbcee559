use Rattle.std.proofs.Common.{length}
use Rattle.reference.proofs.call.+before.Given as goal

abbrev pub decreases-before : goal.decreases-before
decreases-before l = length l.names.now
