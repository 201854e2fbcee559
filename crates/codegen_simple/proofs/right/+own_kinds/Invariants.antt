use Rattle.std.proofs.Common.{length}
use Rattle.codegen_simple.proofs.right.+own_kinds.Given as goal

abbrev pub decreases-own_kinds : goal.decreases-own_kinds
decreases-own_kinds l = length l.expressions.now
