use Rattle.std.proofs.Common.{length}
use Rattle.reference.proofs.begin.+split.Given as goal

abbrev pub decreases-split : goal.decreases-split
decreases-split l = length l.parameters.now
