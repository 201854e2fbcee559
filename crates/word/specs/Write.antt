-- What counts as a failed write.
use Rattle.std.specs.Prelude.{ℕ, List, length, Bool, true, not, ◌&&◌, ◌==◌, Result, Ok, Err}

-- an error, or no byte taken of a piece that is not empty
abbrev pub is_refusal : {E : Type 0} → Result ℕ E → List ℕ → Bool
is_refusal (Ok taken) piece = (taken == 0) && not (length piece == 0)
is_refusal (Err _) piece = true
