use Rattle.std.proofs.Common.{◌≡◌}
use Rattle.word.specs.Related.{kind_of}
use Rattle.one_thread.specs.Histories.{IsReady}
use Rattle.one_thread.specs.Progress.{left_in}
use Rattle.run_values.proofs.Lines.{HasLined}
use Rattle.run_values.proofs.writing.write_run.Given as goal

abbrev pub invariant-events : goal.invariant-events
invariant-events g l = record {
  ready : IsReady l.run;
  limit : l.run.limit ≡ l.limit;
  written : HasLined (kind_of (g.P.Interpreter.parts l.program)) (g.P.Interpreter.held l.program) l.run (g.W.Write.contents l.initial.values) (g.W.Write.contents l.values);
}

abbrev pub decreases-events : goal.decreases-events
decreases-events g l = left_in l.run
