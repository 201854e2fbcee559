use Rattle.std.proofs.Common.{length}
use Rattle.checker_simple.proofs.names.+any_declarable.Given as goal

abbrev pub decreases-any_declarable : goal.decreases-any_declarable
decreases-any_declarable l = length l.names.now
