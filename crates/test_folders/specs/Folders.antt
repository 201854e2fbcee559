-- The programs that the paths of a command line stand for.
use Rattle.std.specs.Prelude.{◌≡◌, ◌⊎◌, ◌==◌, ◌++◌, [], ◌∷◌, ℕ, true, List, codes}
use Rattle.std.specs.List.{ends_with}

-- the path of one source file: it ends in `.go`, or is `-`, for standard input
abbrev pub IsSource : List ℕ → Type 0
IsSource path = (ends_with (λ a b. a == b) path (codes ".go") ≡ true) ⊎ (path ≡ codes "-")

-- the paths of the programs that a path stands for: of a source file itself alone
abbrev pub StandsFor : (path : List ℕ) → (tests : List (List ℕ)) → Type 0
StandsFor path tests = IsSource path → tests ≡ path ∷ []

-- those of all paths, one after the other
pub data AreTests : (paths tests : List (List ℕ)) → Type 0 where
  NoPath : AreTests [] []
  Path : (path : List ℕ) (rest tests later : List (List ℕ)) → StandsFor path tests → AreTests rest later → AreTests (path ∷ rest) (tests ++ later)
