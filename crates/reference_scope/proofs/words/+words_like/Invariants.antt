use Rattle.std.proofs.Common.{length}
use Rattle.reference_scope.proofs.words.+words_like.Given as goal

abbrev pub decreases-words_like : goal.decreases-words_like
decreases-words_like l = length l.zeros.now
