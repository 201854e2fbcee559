use Rattle.std.proofs.Common.{length}
use Rattle.codegen_header.proofs.select.+default_place.Given as goal

abbrev pub decreases-default_place : goal.decreases-default_place
decreases-default_place l = length l.all.now
