-- How a worker paces itself.
use Rattle.std.specs.Prelude.{ℕ, ◌+◌, Bool, true, false, min}
use Rattle.workers.specs.declared.turn.Back.{Back}
use Rattle.workers.specs.declared.turn.Back.TheVariants.{Begun, Talking, Asking, Running, NoMemory}

-- whether a worker that comes back with this leaves items to another one
abbrev pub yields_after : {T : Type 0} → Back T → Bool
yields_after Begun = true
yields_after (Talking item) = true
yields_after (Asking item) = false
yields_after (Running item) = false
yields_after NoMemory = false

-- how many of its last items were short, at most `most`
abbrev pub short_after : {T : Type 0} → (most short : ℕ) → Back T → ℕ
short_after most short (Talking item) = min (short + 1) most
short_after most short back = 0
