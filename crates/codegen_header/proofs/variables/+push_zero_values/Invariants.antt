use Rattle.std.proofs.Common.{length}
use Rattle.codegen_header.proofs.variables.+push_zero_values.Given as goal

abbrev pub decreases-push_zero_values : goal.decreases-push_zero_values
decreases-push_zero_values l = length l.names.now
