use Rattle.std.proofs.Common.{◌≡◌, None}
use Rattle.std.specs.Prelude.{option_map}
use Rattle.word.specs.Related.{kind_of}
use Rattle.word.specs.Views.{event_of}
use Rattle.one_thread.specs.Histories.{IsReady}
use Rattle.one_thread.specs.Progress.{events_left}
use Rattle.one_thread.specs.Snapshots.{IsNotPast}
use Rattle.one_thread.proofs.Snapshots.{HasLast}
use Rattle.one_thread.proofs.snapshot.run_until.Given as goal

abbrev pub invariant-events : goal.invariant-events
invariant-events g l = record {
  ready : IsReady l.run;
  goes : l.run.end ≡ None;
  limit : l.run.limit ≡ l.limit;
  last : HasLast (kind_of (g.P.Interpreter.parts l.program)) (g.P.Interpreter.held l.program) l.run l.event;
  bound : IsNotPast l.until l.run.shared (option_map event_of l.event);
}

abbrev pub decreases-events : goal.decreases-events
decreases-events g l = events_left l.run.shared
