-- Two runs that agree.
use Rattle.std.specs.Prelude.{◌≡◌, ℕ, List, Option}
use Rattle.std.specs.Io.KnownBytes.{Appends}
use Rattle.word.specs.declared.end.End.{End as Ending}

-- both appended the same bytes to what was there, and ended alike
abbrev pub Agree : (old new other others : Option (List ℕ)) (e d : Ending) → Type 0
Agree old new other others e d = (bytes : List ℕ) × Appends old new bytes × Appends other others bytes × (e ≡ d)
