use Rattle.std.proofs.Common.{length}
use Rattle.reference_value.proofs.kind.+kinds_in.Given as goal

abbrev pub decreases-kinds_in : goal.decreases-kinds_in
decreases-kinds_in l = length l.expressions.now
