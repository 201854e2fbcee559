-- Which of several violations is reported.
use Rattle.std.specs.Prelude.{◌≡◌, ℕ, ◌+◌, ◌⊎◌, true, false, List, [], ◌∷◌}
use Rattle.go_text.specs.declared.rule.Rule.TheVariants as rules
use Rattle.syntax.specs.Tree.{Top, File}
use Rattle.syntax.specs.Measures.{top_size, size}
use Rattle.type_table.specs.Scopes.{Globals}
use Rattle.typing_rules.specs.declared.violation.Violation.{Violation}
use Rattle.typing_rules.specs.Violations.{IsBroken}
use Rattle.typing_rules.specs.Kinds.{globals_of}
use Rattle.typing_rules.specs.Declarations.{DeclarationsHave}
use Rattle.typing_rules.specs.Files.{TopBodyHas, has_main}

-- a violation in the body of the first function that has one in its body
abbrev pub FirstBodyHas : Globals → ℕ → List Top → Violation → Type 0
FirstBodyHas globals first [] violation = ⊥
FirstBodyHas globals first (top ∷ rest) violation =
    TopBodyHas globals first top violation
    ⊎ (((other : Violation) → ¬ (TopBodyHas globals first top other)) × FirstBodyHas globals (first + top_size top) rest violation)

-- a violation that is looked for first: those of declarations come before that of a missing `main`, and that before those of bodies
abbrev pub ComesFirst : File → Violation → Type 0
ComesFirst file violation =
    DeclarationsHave file.tops violation
    ⊎ (((other : Violation) → ¬ (DeclarationsHave file.tops other))
    × (((has_main (globals_of file.tops).functions ≡ false) × IsBroken rules.Main (size file) violation)
    ⊎ ((has_main (globals_of file.tops).functions ≡ true) × FirstBodyHas (globals_of file.tops) 0 file.tops violation)))
