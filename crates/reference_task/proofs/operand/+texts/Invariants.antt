use Rattle.std.proofs.Common.{length}
use Rattle.reference_task.proofs.operand.+texts.Given as goal

abbrev pub decreases-texts : goal.decreases-texts
decreases-texts l = length l.parts.now
