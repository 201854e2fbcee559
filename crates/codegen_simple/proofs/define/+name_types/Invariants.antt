use Rattle.std.proofs.Common.{length}
use Rattle.codegen_simple.proofs.define.+name_types.Given as goal

abbrev pub decreases-name_types : goal.decreases-name_types
decreases-name_types l = length l.names.now
