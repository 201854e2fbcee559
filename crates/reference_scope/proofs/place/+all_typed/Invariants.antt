use Rattle.std.proofs.Common.{length}
use Rattle.reference_scope.proofs.place.+all_typed.Given as goal

abbrev pub decreases-all_typed : goal.decreases-all_typed
decreases-all_typed l = length l.names.now
