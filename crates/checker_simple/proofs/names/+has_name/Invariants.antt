use Rattle.std.proofs.Common.{length}
use Rattle.checker_simple.proofs.names.+has_name.Given as goal

abbrev pub decreases-has_name : goal.decreases-has_name
decreases-has_name l = length l.names.now
