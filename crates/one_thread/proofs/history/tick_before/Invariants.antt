use Rattle.std.proofs.Common.{◌≡◌, None}
use Rattle.word.specs.Related.{kind_of}
use Rattle.one_thread.specs.Histories.{Adds, IsReady}
use Rattle.one_thread.specs.Progress.{ticks_left, weight_left}
use Rattle.one_thread.proofs.history.tick_before.Given as goal

abbrev pub invariant-slides : goal.invariant-slides
invariant-slides g l = record {
  ready : IsReady l.run;
  goes : l.run.end ≡ None;
  adds : Adds (kind_of (g.P.Interpreter.parts l.program)) (g.P.Interpreter.held l.program) l.initial.run None l.run;
  limit : l.run.limit ≡ l.initial.run.limit;
  ticks : ticks_left l.initial.run.limit l.run.places ≡ ticks_left l.initial.run.limit l.initial.run.places;
  same : l.run.shared ≡ l.initial.run.shared;
}

abbrev pub decreases-slides : goal.decreases-slides
decreases-slides g l = weight_left (λ (state : g.row.P-State.Denot). g.P.Interpreter.weight l.program (g.P.Interpreter.held l.program state)) l.run.places
