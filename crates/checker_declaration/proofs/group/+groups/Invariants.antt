use Rattle.std.proofs.Common.{length}
use Rattle.checker_declaration.proofs.group.+groups.Given as goal

abbrev pub decreases-groups : goal.decreases-groups
decreases-groups l = length l.all.now
