use Rattle.std.proofs.Common.{◌≡◌, ◌≤◌, ◌⊎◌, length}
use Rattle.word.specs.Related.{kind_of}
use Rattle.one_thread.specs.Histories.{IsReady}
use Rattle.one_thread.specs.Progress.{left_in}
use Rattle.paused_timeline.proofs.Windows.{HasKept}
use Rattle.paused_timeline.proofs.keeping.keep_last.Given as goal

abbrev pub invariant-events : goal.invariant-events
invariant-events g l = record {
  ready : IsReady l.run;
  limit : l.run.limit ≡ l.initial.run.limit;
  had : HasKept (kind_of (g.P.Interpreter.parts l.program)) (g.P.Interpreter.held l.program) l.run l.latest.before l.latest.events.items;
  few : length l.latest.events.items ≤ l.most;
  full : (l.latest.before ≡ 0) ⊎ (length l.latest.events.items ≡ l.most);
}

abbrev pub decreases-events : goal.decreases-events
decreases-events g l = left_in l.run
