use Rattle.std.proofs.Common.{length}
use Rattle.reference.proofs.call.+bind.Given as goal

abbrev pub decreases-bind : goal.decreases-bind
decreases-bind l = length l.parameters.now
