use Rattle.std.proofs.Common.{◌≡◌, ℕ, List, Option, None}
use Rattle.word.specs.Related.{kind_of}
use Rattle.one_thread.specs.Places.{AreWithin}
use Rattle.one_thread.specs.Progress.{ticks_left, weight_left}
use Rattle.one_thread.specs.Worlds.{Stands}
use Rattle.one_thread.proofs.running.next_tick.Given as goal

abbrev pub invariant-slides : goal.invariant-slides
invariant-slides g l = record {
  going : l.shared.ending ≡ None;
  within : AreWithin l.limit l.places;
  kept : (known : Option (List ℕ)) → Stands (kind_of (g.P.Interpreter.parts l.program)) (g.P.Interpreter.held l.program) l.limit known (g.W.Write.contents l.initial.output) l.initial.places l.initial.shared → Stands (kind_of (g.P.Interpreter.parts l.program)) (g.P.Interpreter.held l.program) l.limit known (g.W.Write.contents l.output) l.places l.shared;
  ticks : ticks_left l.limit l.places ≡ ticks_left l.limit l.initial.places;
  same : l.shared ≡ l.initial.shared;
}

abbrev pub decreases-slides : goal.decreases-slides
decreases-slides g l = weight_left (λ (state : g.row.P-State.Denot). g.P.Interpreter.weight l.program (g.P.Interpreter.held l.program state)) l.places
