use Rattle.std.proofs.Common.{length}
use Rattle.codegen_simple.proofs.print.+printed_parts.Given as goal

abbrev pub decreases-printed_parts : goal.decreases-printed_parts
decreases-printed_parts l = length l.parts.now
