use Rattle.std.proofs.Common.{◌≡◌, None}
use Rattle.word.specs.Related.{kind_of}
use Rattle.one_thread.specs.Histories.{Adds, IsReady}
use Rattle.one_thread.specs.Progress.{ticks_left}
use Rattle.one_thread.proofs.history.event_before.Given as goal

abbrev pub invariant-ticks : goal.invariant-ticks
invariant-ticks g l = record {
  ready : IsReady l.run;
  goes : l.run.end ≡ None;
  adds : Adds (kind_of (g.P.Interpreter.parts l.program)) (g.P.Interpreter.held l.program) l.initial.run None l.run;
  limit : l.run.limit ≡ l.initial.run.limit;
  same : l.run.shared ≡ l.initial.run.shared;
}

abbrev pub decreases-ticks : goal.decreases-ticks
decreases-ticks g l = ticks_left l.initial.run.limit l.run.places
