use Rattle.std.proofs.Common.{◌≡◌}
use Rattle.word.specs.Related.{kind_of}
use Rattle.one_thread.specs.Histories.{IsReady}
use Rattle.one_thread.specs.Progress.{left_in}
use Rattle.traced_run.proofs.Written.{HasWritten}
use Rattle.traced_run.proofs.tracing.run_below.Given as goal

abbrev pub invariant-events : goal.invariant-events
invariant-events g l = record {
  ready : IsReady l.run;
  limit : l.run.limit ≡ l.limit;
  written : HasWritten (kind_of (g.P.Interpreter.parts l.program)) (g.P.Interpreter.held l.program) l.run (g.O.Write.contents l.initial.output) (g.O.Write.contents l.output) (g.T.Write.contents l.initial.trace) (g.T.Write.contents l.trace);
}

abbrev pub decreases-events : goal.decreases-events
decreases-events g l = left_in l.run
