-- The trace of more events begins with that of fewer.
use Rattle.std.proofs.Common.{◌≡◌, ℕ, List, [], ◌∷◌, ◌++◌, length, take, drop, sym, ap, ◌∙◌}
use Rattle.std.proofs.Math.Seq.{take-append_seam}
use Rattle.std.proofs.lemmas.List.{append-nil, take-append-drop}
use Rattle.std.proofs.lemmas.List.Concat.{flat_map-append}
use Rattle.word.specs.Values.{Event}
use Rattle.tracer.specs.Trace.{trace, traceline}

pub trace-append : (events more : List Event) → trace (events ++ more) ≡ trace events ++ trace more
trace-append events more = flat_map-append traceline events more

-- one event more is one line more
pub trace-push : (events : List Event) (event : Event) → trace (events ++ event ∷ []) ≡ trace events ++ traceline event
trace-push events event = trace-append events (event ∷ []) ∙ ap (λ line. trace events ++ line) (append-nil (traceline event))

pub trace-prefix : (events more : List Event) → take (length (trace events)) (trace (events ++ more)) ≡ trace events
trace-prefix events more =
    ap (take (length (trace events))) (trace-append events more) ∙ take-append_seam (trace events) (trace more)

-- the first events have the first lines
pub trace-take : (n : ℕ) (events : List Event) → take (length (trace (take n events))) (trace events) ≡ trace (take n events)
trace-take n events =
    ap (λ all. take (length (trace (take n events))) (trace all)) (sym (take-append-drop n events)) ∙ trace-prefix (take n events) (drop n events)
