use Rattle.std.proofs.Common.{length}
use Rattle.reference_task.proofs.operand.+append_words.Given as goal

abbrev pub decreases-append_words : goal.decreases-append_words
decreases-append_words l = length l.all.now
