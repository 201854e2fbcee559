use Rattle.std.proofs.Common.{length}
use Rattle.diagnostic_typing.proofs.fresh.+first_repeated.Given as goal

abbrev pub decreases-first_repeated : goal.decreases-first_repeated
decreases-first_repeated l = length l.names.now
