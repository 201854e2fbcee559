use Rattle.std.proofs.Common.{vec_len}
use Rattle.reference_scope.proofs.scope.+put.Given as goal

abbrev pub decreases-put : goal.decreases-put
decreases-put l = vec_len l.blocks.now
