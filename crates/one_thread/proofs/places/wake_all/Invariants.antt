use Rattle.std.proofs.Common.{◌≤◌, ℕ}
use Rattle.word.specs.Related.{kind_of}
use Rattle.one_thread.specs.Places.{AreWithin, Wakes}
use Rattle.one_thread.proofs.places.wake_all.Given as goal

abbrev pub invariant-loop-one : goal.invariant-loop-one
invariant-loop-one g l = record {
  woken : Wakes (kind_of (g.P.Interpreter.parts l.program)) (g.P.Interpreter.held l.program) l.clock l.initial.places l.yielded l.places;
  within : (limit : ℕ) → l.clock ≤ limit → AreWithin limit l.initial.places → AreWithin limit l.places;
}
