-- What the grammar says of a file beyond the shape of its tree.
use Rattle.std.specs.Prelude.{◌≡◌, Bool, true, false, ◌<◌, ◌≤◌, List, [], ◌∷◌, length, Option, Some, None}
use Rattle.syntax.specs.declared.limits.TheConstants.{MAX_ENTRIES, MAX_CLAUSES}
use Rattle.syntax.specs.declared.node.BinaryOperator.{BinaryOperator}
use Rattle.syntax.specs.declared.node.BinaryOperator.TheVariants as binaries
use Rattle.syntax.specs.Measures.{most_entries, most_clauses}
use Rattle.syntax.specs.Tree.{Simple, Define, Update, IfHead, First, ForClauses, Statement, Alone, Block, If, For, Select, Statements, NoStatement, Then, Branch, Conditional, Otherwise, NoElse, ElseBlock, ElseIf, Clauses, NoClause, Clause, Declared, Top, StructTop, FunctionTop, File}

-- ---- an operator that assigns is one of arithmetic (Go: Assignment statements, assign_op = [ add_op | mul_op ] "=")

abbrev pub is_arithmetic : BinaryOperator → Bool
is_arithmetic binaries.Equal = false
is_arithmetic binaries.NotEqual = false
is_arithmetic binaries.Less = false
is_arithmetic binaries.LessEqual = false
is_arithmetic binaries.Greater = false
is_arithmetic binaries.GreaterEqual = false
is_arithmetic binaries.LogicalAnd = false
is_arithmetic binaries.LogicalOr = false
is_arithmetic operator = true

abbrev pub is_formed : Simple → Bool
is_formed (Update place operator value) = is_arithmetic operator
is_formed simple = true

abbrev pub any_formed : Option Simple → Bool
any_formed None = true
any_formed (Some simple) = is_formed simple

abbrev pub head_formed : IfHead → Bool
head_formed (First simple) = is_formed simple
head_formed head = true

-- ---- the post statement of a loop declares nothing (Go: For statements with for clause)

abbrev pub IsStill : Simple → Type 0
IsStill (Define names right) = ⊥
IsStill simple = Unit {0}

abbrev pub StillAny : Option Simple → Type 0
StillAny None = Unit {0}
StillAny (Some simple) = IsStill simple

-- ---- both, of each statement within

abbrev mutual
  pub FormedStatement : Statement → Type 0
  FormedStatement (Alone simple) = is_formed simple ≡ true
  FormedStatement (Block body) = FormedAll body
  FormedStatement (If branch) = FormedBranch branch
  FormedStatement (For (ForClauses first condition post) body) = StillAny post × FormedAll body × (any_formed first ≡ true) × (any_formed post ≡ true)
  FormedStatement (For head body) = FormedAll body
  FormedStatement (Select clauses) = FormedClauses clauses
  FormedStatement statement = Unit {0}

  pub FormedAll : Statements → Type 0
  FormedAll NoStatement = Unit {0}
  FormedAll (Then first rest) = FormedStatement first × FormedAll rest

  pub FormedBranch : Branch → Type 0
  FormedBranch (Conditional head condition body otherwise) = FormedAll body × FormedOtherwise otherwise × (head_formed head ≡ true)

  pub FormedOtherwise : Otherwise → Type 0
  FormedOtherwise NoElse = Unit {0}
  FormedOtherwise (ElseBlock body) = FormedAll body
  FormedOtherwise (ElseIf branch) = FormedBranch branch

  pub FormedClauses : Clauses → Type 0
  FormedClauses NoClause = Unit {0}
  FormedClauses (Clause comm body rest) = FormedAll body × FormedClauses rest

abbrev pub FormedTops : List Top → Type 0
FormedTops [] = Unit {0}
FormedTops (StructTop struct ∷ rest) = FormedTops rest
FormedTops (FunctionTop function ∷ rest) = FormedAll function.body × FormedTops rest

-- ---- each group of fields declares a name (Go: Struct types)

abbrev pub AllNamed : List Declared → Type 0
AllNamed [] = Unit {0}
AllNamed (group ∷ rest) = (0 < length group.names) × AllNamed rest

abbrev pub NamedTops : List Top → Type 0
NamedTops [] = Unit {0}
NamedTops (StructTop struct ∷ rest) = AllNamed struct.fields × NamedTops rest
NamedTops (FunctionTop function ∷ rest) = NamedTops rest

-- ---- a file that the grammar gives

pub record IsGrammatical (file : File) : Type 0 where
  pub formed : FormedTops file.tops
  pub named : NamedTops file.tops

-- its lists are no longer than the parser lets them be
abbrev pub IsLimited : File → Type 0
IsLimited file = (most_entries file ≤ MAX_ENTRIES) × (most_clauses file ≤ MAX_CLAUSES)
