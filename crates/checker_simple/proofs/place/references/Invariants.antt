use Rattle.std.proofs.Common.{◌≡◌, ◌++◌, drop, map}
use Rattle.syntax.specs.View.{place_of}
use Rattle.checker_simple.specs.Givens.{places_at}
use Rattle.checker_simple.proofs.place.references.Given as goal

abbrev pub invariant-loop-place : goal.invariant-loop-place
invariant-loop-place l = places_at l.all.items ++ map place_of (drop l.place-index l.places) ≡ map place_of l.places
