use Rattle.std.proofs.Common.{length}
use Rattle.pauses.proofs.number.+digits_after.Given as goal

abbrev pub decreases-digits_after : goal.decreases-digits_after
decreases-digits_after l = length l.digits.now
