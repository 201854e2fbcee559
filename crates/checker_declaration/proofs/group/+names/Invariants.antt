use Rattle.std.proofs.Common.{length}
use Rattle.checker_declaration.proofs.group.+names.Given as goal

abbrev pub decreases-names : goal.decreases-names
decreases-names l = length l.all.now
