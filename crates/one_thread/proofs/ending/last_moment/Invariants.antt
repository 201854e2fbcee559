use Rattle.std.proofs.Common.{◌≡◌, ◌<◌, ℕ, None}
use Rattle.word.specs.Related.{kind_of}
use Rattle.word.specs.Worlds.{end_of, moment}
use Rattle.one_thread.specs.Places.{AreWithin}
use Rattle.one_thread.specs.Worlds.{IsWorldOf, Stands}
use Rattle.one_thread.proofs.ending.last_moment.Given as goal

abbrev pub invariant-loop-count : goal.invariant-loop-count
invariant-loop-count g l = record {
  going : l.shared.ending ≡ None;
  within : AreWithin l.limit l.goroutines;
  stands : Stands (kind_of (g.P.Interpreter.parts l.program)) (g.P.Interpreter.held l.program) l.limit (g.W.Write.contents l.initial.output) (g.W.Write.contents l.output) l.goroutines l.shared;
  world : IsWorldOf (kind_of (g.P.Interpreter.parts l.program)) (g.P.Interpreter.held l.program) (moment (kind_of (g.P.Interpreter.parts l.program)) l.limit l.count) l.goroutines l.shared;
  lasts : (n : ℕ) → n < l.count → end_of (moment (kind_of (g.P.Interpreter.parts l.program)) l.limit n) ≡ None;
}
