use Rattle.std.proofs.Common.{length}
use Rattle.codegen.proofs.head.+declare_names.Given as goal

abbrev pub decreases-declare_names : goal.decreases-declare_names
decreases-declare_names l = length l.names.now
