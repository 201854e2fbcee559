use Rattle.std.proofs.Common.{◌≡◌, ◌+◌, ◌++◌, drop, map, sum_by}
use Rattle.syntax.specs.View.{place_of}
use Rattle.spans.specs.Words.{place_step}
use Rattle.spans.specs.Places.{places_spans}
use Rattle.spans.proofs.simple.places_spans.Given as goal

abbrev pub invariant-loop-place : goal.invariant-loop-place
invariant-loop-place l =
    (l.count + sum_by place_step (map place_of (drop l.place-index l.places)) ≡ sum_by place_step (map place_of l.places))
    × (l.spans.items ++ places_spans l.tokens (l.at + l.count) (map place_of (drop l.place-index l.places))
    ≡ l.fn.spans.items ++ places_spans l.tokens l.at (map place_of l.places))
