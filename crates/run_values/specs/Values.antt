-- Lines, one for each event of a run.
use Rattle.std.specs.Prelude.{◌≡◌, ℕ, ◌∷◌, ◌++◌, [], All, IsSome, List, Option, length}
use Rattle.std.specs.Io.KnownBytes.{Appends}
use Rattle.std.specs.List.{flat_map}
use Rattle.word.specs.Kinds.{GoroutineKind}
use Rattle.word.specs.Worlds.{end_of, moment}

-- bytes that are no newline, and a newline
abbrev pub IsLine : List ℕ → Type 0
IsLine line = (front : List ℕ) × All (λ b. b ≡ 10 → ⊥) front × (line ≡ front ++ 10 ∷ [])

-- these bytes are so many lines
abbrev pub AreLines : (bytes : List ℕ) → (count : ℕ) → Type 0
AreLines bytes count = (lines : List (List ℕ)) × (length lines ≡ count) × All IsLine lines × (bytes ≡ flat_map (λ line. line) lines)

-- as many lines were written as the one-thread run has events, which has ended
abbrev pub HasLines : GoroutineKind → (limit : ℕ) → (old new : Option (List ℕ)) → Type 0
HasLines K limit old new =
    (n : ℕ) × (bytes : List ℕ) × Appends old new bytes × AreLines bytes (length (moment K limit n).shared.shared.events) × IsSome (end_of (moment K limit n))
