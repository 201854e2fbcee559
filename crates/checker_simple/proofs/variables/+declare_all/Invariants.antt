use Rattle.std.proofs.Common.{length}
use Rattle.checker_simple.proofs.variables.+declare_all.Given as goal

abbrev pub decreases-declare_all : goal.decreases-declare_all
decreases-declare_all l = length l.names.now
