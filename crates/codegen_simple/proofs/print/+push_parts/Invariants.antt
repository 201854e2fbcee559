use Rattle.std.proofs.Common.{length}
use Rattle.codegen_simple.proofs.print.+push_parts.Given as goal

abbrev pub decreases-push_parts : goal.decreases-push_parts
decreases-push_parts l = length l.parts.now
