use Rattle.std.proofs.Common.{◌≡◌, ℕ, List, Option, None}
use Rattle.word.specs.Related.{kind_of}
use Rattle.one_thread.specs.Places.{AreWithin}
use Rattle.one_thread.specs.Progress.{ticks_left}
use Rattle.one_thread.specs.Worlds.{Stands}
use Rattle.one_thread.proofs.running.next_event.Given as goal

abbrev pub invariant-ticks : goal.invariant-ticks
invariant-ticks g l = record {
  going : l.shared.ending ≡ None;
  within : AreWithin l.limit l.places;
  kept : (known : Option (List ℕ)) → Stands (kind_of (g.P.Interpreter.parts l.program)) (g.P.Interpreter.held l.program) l.limit known (g.W.Write.contents l.initial.output) l.initial.places l.initial.shared → Stands (kind_of (g.P.Interpreter.parts l.program)) (g.P.Interpreter.held l.program) l.limit known (g.W.Write.contents l.output) l.places l.shared;
  same : l.shared ≡ l.initial.shared;
}

abbrev pub decreases-ticks : goal.decreases-ticks
decreases-ticks g l = ticks_left l.limit l.places
