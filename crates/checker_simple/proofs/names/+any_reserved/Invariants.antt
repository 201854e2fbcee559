use Rattle.std.proofs.Common.{length}
use Rattle.checker_simple.proofs.names.+any_reserved.Given as goal

abbrev pub decreases-any_reserved : goal.decreases-any_reserved
decreases-any_reserved l = length l.names.now
