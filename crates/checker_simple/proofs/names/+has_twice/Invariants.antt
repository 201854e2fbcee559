use Rattle.std.proofs.Common.{length}
use Rattle.checker_simple.proofs.names.+has_twice.Given as goal

abbrev pub decreases-has_twice : goal.decreases-has_twice
decreases-has_twice l = length l.names.now
