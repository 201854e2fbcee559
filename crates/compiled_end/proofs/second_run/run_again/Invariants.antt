use Rattle.std.proofs.Common.{◌-◌, ◌^◌}
use Rattle.compiled_end.proofs.second_run.run_again.Given as goal

abbrev pub decreases-rounds : goal.decreases-rounds
decreases-rounds g l = 2 ^ 128 - l.counter
