-- What a goroutine weighs that keeps to a plan: less after each step that costs nothing.
use Rattle.std.specs.Prelude.{ℕ, ◌+◌, Bool, true, false}
use Rattle.pauses.specs.Paused.{PausedState}

-- 1 if it has still to count the goroutine that it starts next
abbrev pub count_left : (prepared : Bool) → ℕ
count_left true = 0
count_left false = 1

abbrev pub paused_weight : {S : Type 0} → (S → ℕ) → PausedState S → ℕ
paused_weight weight s = weight s.state + count_left s.progress.prepared
