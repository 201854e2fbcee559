use Rattle.std.proofs.Common.{length}
use Rattle.reference_scope.proofs.place.+all_defined.Given as goal

abbrev pub decreases-all_defined : goal.decreases-all_defined
decreases-all_defined l = length l.names.now
