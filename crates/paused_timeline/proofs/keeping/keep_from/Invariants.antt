use Rattle.std.proofs.Common.{◌≡◌, ◌≤◌, ◌⊎◌, [], None, length}
use Rattle.word.specs.Related.{kind_of}
use Rattle.one_thread.specs.Histories.{IsReady}
use Rattle.one_thread.specs.Progress.{left_in}
use Rattle.paused_timeline.proofs.Windows.{HasKept}
use Rattle.paused_timeline.proofs.keeping.keep_from.Given as goal

abbrev pub invariant-events : goal.invariant-events
invariant-events g l = record {
  ready : IsReady l.run;
  limit : l.run.limit ≡ l.initial.run.limit;
  had : HasKept (kind_of (g.P.Interpreter.parts l.program)) (g.P.Interpreter.held l.program) l.run l.kept.before l.kept.events.items;
  few : length l.kept.events.items ≤ l.most;
  begins : (l.kept.before ≡ l.skip) ⊎ ((l.kept.before ≤ l.skip) × (l.kept.events.items ≡ []));
  unended : l.kept.end ≡ None;
}

abbrev pub decreases-events : goal.decreases-events
decreases-events g l = left_in l.run
