use Rattle.one_thread.specs.Histories.{IsReady}
use Rattle.paused_end.proofs.run.last_moment.Given as goal

abbrev pub invariant-loop : goal.invariant-loop
invariant-loop l = IsReady l.run
