-- The words for how a run ends.
use Rattle.std.specs.Prelude.{◌≡◌, ◌⊎◌, ℕ, ◌+◌, ◌∷◌, ◌++◌, List, [], codes}
use Rattle.std.specs.Str.{byte}
use Rattle.kendo_report.specs.Outcome.{panic_number, panic_text}
use Rattle.word.specs.declared.end.End.{End}
use Rattle.word.specs.declared.end.End.TheVariants as ends
use Rattle.word.specs.declared.panic.Panic.{Panic}

-- `P1` to `P9`
abbrev pub panic_word : Panic → List ℕ
panic_word cause = byte "P" ∷ (byte "0" + panic_number cause) ∷ []

-- a panic by its number, or by its number and what it says
abbrev pub IsPanicCalled : List ℕ → Panic → Type 0
IsPanicCalled words cause = (words ≡ codes "panic " ++ panic_word cause) ⊎ (words ≡ codes "panic " ++ (panic_word cause ++ byte " " ∷ panic_text cause))

-- an end by the words of a run's last line, or shorter
abbrev pub IsCalled : List ℕ → End → Type 0
IsCalled words ends.Finished = words ≡ codes "finished"
IsCalled words ends.Deadlock = words ≡ codes "deadlock"
IsCalled words ends.Exhausted = (words ≡ codes "exhausted") ⊎ (words ≡ codes "logical time exhausted")
IsCalled words (ends.Panicked cause) = IsPanicCalled words cause
