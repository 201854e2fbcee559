use Rattle.std.proofs.Common.{length}
use Rattle.reference_value.proofs.given.+parted.Given as goal

abbrev pub decreases-parted : goal.decreases-parted
decreases-parted l = length l.zeros.now
