use Rattle.std.proofs.Common.{length}
use Rattle.reference_scope.proofs.place.+all_placed.Given as goal

abbrev pub decreases-all_placed : goal.decreases-all_placed
decreases-all_placed l = length l.places.now
