-- What a close ends, by the events alone.
use Rattle.std.specs.Prelude.{◌≡◌, ℕ, ◌+◌, ◌==◌, nat_le, ◌&&◌, ◌||◌, Bool, true, false, cond, List, [], ◌∷◌, ◌++◌, Some}
use Rattle.word.specs.Values.{Request, Make, Close, EventOutcome, Done, Sleeps, Panics, Event, Shared}
use Rattle.word.specs.Flow.{deal, enters}

abbrev pub is_done : EventOutcome → Bool
is_done (Done reply) = true
is_done Sleeps = false
is_done (Panics p k) = false

abbrev pub is_make : Request → Bool
is_make (Make size z) = true
is_make q = false

abbrev pub is_close : ℕ → Request → Bool
is_close c (Close (Some k)) = k == c
is_close c q = false

-- channels are numbered 1, 2, .. in the order in which they are made
abbrev pub makes : Event → ℕ
makes e = cond (is_done e.outcome && is_make e.request) 1 0

abbrev pub made_in : List Event → ℕ
made_in [] = 0
made_in (e ∷ es) = makes e + made_in es

abbrev pub closes : ℕ → Event → Bool
closes c e = is_done e.outcome && is_close c e.request

-- channel c was closed in these events, being one of those that were made by then; m were made before
abbrev pub closed_after : ℕ → ℕ → List Event → Bool
closed_after c m [] = false
closed_after c m (e ∷ es) = (closes c e && nat_le c m) || closed_after c (m + makes e) es

abbrev pub is_closed_in : ℕ → List Event → Bool
is_closed_in c es = closed_after c 0 es

-- no event after the close of channel c adds to what entered its buffer or a receiver's hands
abbrev pub ShutAfter : ℕ → List Event → List Event → Type 0
ShutAfter c before [] = Unit {0}
ShutAfter c before (e ∷ es) = (is_closed_in c before ≡ true → enters c before (deal e) e.partners ≡ []) × ShutAfter c (before ++ e ∷ []) es

abbrev pub IsShut : Shared → Type 0
IsShut w = (c : ℕ) → ShutAfter c [] w.events
