use Rattle.std.proofs.Common.{length}
use Rattle.codegen_simple.proofs.define.+define_names.Given as goal

abbrev pub decreases-define_names : goal.decreases-define_names
decreases-define_names l = length l.names.now
