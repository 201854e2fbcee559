use Rattle.std.proofs.Common.{length}
use Rattle.codegen_simple.proofs.place.+place_spots.Given as goal

abbrev pub decreases-place_spots : goal.decreases-place_spots
decreases-place_spots l = length l.places.now
