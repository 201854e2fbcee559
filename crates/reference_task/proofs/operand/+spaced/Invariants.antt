use Rattle.std.proofs.Common.{length}
use Rattle.reference_task.proofs.operand.+spaced.Given as goal

abbrev pub decreases-spaced : goal.decreases-spaced
decreases-spaced l = length l.texts.now
