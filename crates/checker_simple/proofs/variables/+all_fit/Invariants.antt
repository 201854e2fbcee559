use Rattle.std.proofs.Common.{length}
use Rattle.checker_simple.proofs.variables.+all_fit.Given as goal

abbrev pub decreases-all_fit : goal.decreases-all_fit
decreases-all_fit l = length l.values.now
