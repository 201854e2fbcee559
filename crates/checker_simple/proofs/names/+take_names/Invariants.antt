use Rattle.std.proofs.Common.{length}
use Rattle.checker_simple.proofs.names.+take_names.Given as goal

abbrev pub decreases-take_names : goal.decreases-take_names
decreases-take_names l = length l.names.now
