use Rattle.std.proofs.Common.{◌≡◌, None}
use Rattle.word.specs.Related.{kind_of}
use Rattle.one_thread.specs.Places.{AreWithin}
use Rattle.one_thread.specs.Progress.{events_left}
use Rattle.one_thread.specs.Worlds.{Stands}
use Rattle.one_thread.proofs.running.run_below.Given as goal

abbrev pub invariant-events : goal.invariant-events
invariant-events g l = record {
  going : l.shared.ending ≡ None;
  within : AreWithin l.limit l.places;
  stands : Stands (kind_of (g.P.Interpreter.parts l.program)) (g.P.Interpreter.held l.program) l.limit (g.W.Write.contents l.initial.output) (g.W.Write.contents l.output) l.places l.shared;
}

abbrev pub decreases-events : goal.decreases-events
decreases-events g l = events_left l.shared
