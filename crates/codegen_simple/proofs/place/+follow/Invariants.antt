use Rattle.std.proofs.Common.{length}
use Rattle.codegen_simple.proofs.place.+follow.Given as goal

abbrev pub decreases-follow : goal.decreases-follow
decreases-follow l = length l.fields.now
