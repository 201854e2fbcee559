use Rattle.std.proofs.Common.{length}
use Rattle.reference_scope.proofs.place.+all_new.Given as goal

abbrev pub decreases-all_new : goal.decreases-all_new
decreases-all_new l = length l.names.now
