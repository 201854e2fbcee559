-- Plans of pauses.
use Rattle.std.specs.Prelude.{ℕ, Bool, true, false, ◌==◌, ◌&&◌, bytes_eq, List, map}
pub use Rattle.pauses.specs.declared.plan.Change.{Change}
pub use Rattle.pauses.specs.declared.plan.Change.TheVariants.{Wait, Clause}
use Rattle.pauses.specs.declared.plan.Pause.{Pause as Kept}

-- what is changed at a request of the goroutine of this way; requests are counted from 1
pub record Pause : Type 0 where
  pub way : List ℕ
  pub request : ℕ
  pub change : Change

abbrev pub pause_of : Kept → Pause
pause_of p = record { way = p.way.items; request = p.request; change = p.change }

abbrev pub pauses_of : List Kept → List Pause
pauses_of ps = map pause_of ps

-- both are waits, or both clauses
abbrev pub is_alike : Change → Change → Bool
is_alike (Wait _) (Wait _) = true
is_alike (Clause _) (Clause _) = true
is_alike _ _ = false

-- both change the same thing of one request
abbrev pub is_rival : Pause → Pause → Bool
is_rival p q = bytes_eq p.way q.way && ((p.request == q.request) && is_alike p.change q.change)
