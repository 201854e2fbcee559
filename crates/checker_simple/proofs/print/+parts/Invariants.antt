use Rattle.std.proofs.Common.{length}
use Rattle.checker_simple.proofs.print.+parts.Given as goal

abbrev pub decreases-parts : goal.decreases-parts
decreases-parts l = length l.all.now
