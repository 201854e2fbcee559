use Rattle.std.proofs.Common.{length}
use Rattle.reference_scope.proofs.place.+store.Given as goal

abbrev pub decreases-store : goal.decreases-store
decreases-store l = length l.destinations.now
