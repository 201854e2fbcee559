-- What the one-thread run of a goroutine kind writes, and how it ends.
use Rattle.std.specs.Prelude.{◌≡◌, ℕ, ◌≤◌, ◌^◌, List, take, Option, Some}
use Rattle.std.specs.Io.KnownBytes.{Appends}
use Rattle.word.specs.declared.end.End.{End as Ending}
use Rattle.word.specs.Kinds.{GoroutineKind}
use Rattle.word.specs.Worlds.{end_of, moment}

-- a last logical time that a run may have
abbrev pub IsLimit : ℕ → Type 0
IsLimit limit = (1 ≤ limit) × (limit ≤ 2 ^ 62)

-- a number of workers that a run may have
abbrev pub IsWorkers : ℕ → Type 0
IsWorkers workers = (1 ≤ workers) × (workers ≤ 64)

-- what was written after the old contents begins the output of the one-thread run
abbrev pub BeginsOutput : GoroutineKind → ℕ → Option (List ℕ) → Option (List ℕ) → Type 0
BeginsOutput K limit old new = (n : ℕ) × (k : ℕ) × Appends old new (take k (moment K limit n).shared.shared.output)

-- it is all of it, and the run ends so
abbrev pub IsWhole : GoroutineKind → ℕ → Option (List ℕ) → Option (List ℕ) → Ending → Type 0
IsWhole K limit old new ending =
    (n : ℕ) × Appends old new (moment K limit n).shared.shared.output × (end_of (moment K limit n) ≡ Some ending)
