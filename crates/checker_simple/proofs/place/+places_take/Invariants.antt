use Rattle.std.proofs.Common.{length}
use Rattle.checker_simple.proofs.place.+places_take.Given as goal

abbrev pub decreases-places_take : goal.decreases-places_take
decreases-places_take l = length l.places.now
