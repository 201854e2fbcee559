use Rattle.std.proofs.Common.{length}
use Rattle.codegen_simple.proofs.assignment.+store_spots.Given as goal

abbrev pub decreases-store_spots : goal.decreases-store_spots
decreases-store_spots l = length l.spots.now
