use Rattle.std.proofs.Common.{length}
use Rattle.codegen_simple.proofs.place.+taken_types.Given as goal

abbrev pub decreases-taken_types : goal.decreases-taken_types
decreases-taken_types l = length l.places.now
