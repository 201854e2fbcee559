use Rattle.std.proofs.Common.{length}
use Rattle.checker_simple.proofs.place.+path.Given as goal

abbrev pub decreases-path : goal.decreases-path
decreases-path l = length l.fields.now
