use Rattle.std.proofs.Common.{length}
use Rattle.reference_scope.proofs.part.+slot_along.Given as goal

abbrev pub decreases-slot_along : goal.decreases-slot_along
decreases-slot_along l = length l.path.now
