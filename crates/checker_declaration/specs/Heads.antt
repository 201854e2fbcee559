-- What is wrong with the heads of functions after their names.
use Rattle.std.specs.Prelude.{ℕ, ◌+◌, ◌⊎◌, List, [], ◌∷◌}
use Rattle.syntax.specs.Tree.{Top, StructTop, FunctionTop}
use Rattle.syntax.specs.Measures.{top_size}
use Rattle.typing_rules.specs.declared.violation.Violation.{Violation}
use Rattle.typing_rules.specs.Declarations.{HeadHas}

abbrev pub TopHeadHas : List (List ℕ) → ℕ → Top → Violation → Type 0
TopHeadHas types first (StructTop struct) violation = ⊥
TopHeadHas types first (FunctionTop function) violation = HeadHas types first function violation

abbrev pub HeadsHave : List (List ℕ) → ℕ → List Top → Violation → Type 0
HeadsHave types first [] violation = ⊥
HeadsHave types first (top ∷ rest) violation = TopHeadHas types first top violation ⊎ HeadsHave types (first + top_size top) rest violation
