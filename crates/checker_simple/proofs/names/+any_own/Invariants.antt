use Rattle.std.proofs.Common.{length}
use Rattle.checker_simple.proofs.names.+any_own.Given as goal

abbrev pub decreases-any_own : goal.decreases-any_own
decreases-any_own l = length l.names.now
