use Rattle.std.proofs.Common.{length}
use Rattle.checker_simple.proofs.place.+places.Given as goal

abbrev pub decreases-places : goal.decreases-places
decreases-places l = length l.all.now
