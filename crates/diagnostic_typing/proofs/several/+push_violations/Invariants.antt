use Rattle.std.proofs.Common.{length}
use Rattle.diagnostic_typing.proofs.several.+push_violations.Given as goal

abbrev pub decreases-push_violations : goal.decreases-push_violations
decreases-push_violations l = length l.tops.now
