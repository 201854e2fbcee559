-- That the grammar gives a file is known in one way at most: so a type can carry it.
use Rattle.std.specs.Prelude.{◌≡◌, Bool, List, [], ◌∷◌, Option, Some, None}
use Rattle.std.specs.Coded.{Coded-set, coded_bool, ×_prop, Unit-prop, le_prop}
use Rattle.syntax.specs.Grammar.{IsStill, StillAny, FormedStatement, FormedAll, FormedBranch, FormedOtherwise, FormedClauses, FormedTops, AllNamed, NamedTops, IsGrammatical}
use Rattle.syntax.specs.Tree.{Simple, CallAlone, Close, Print, ReceiveAlone, Send, Increment, Decrement, Assign, Define, Update, Forever, While, ForClauses, Range, Statement, Empty, Alone, VarTyped, VarUntyped, Block, If, For, Select, Go, Return, Break, Continue, Statements, NoStatement, Then, Branch, Conditional, Otherwise, NoElse, ElseBlock, ElseIf, Clauses, NoClause, Clause, Declared, Top, StructTop, FunctionTop, File}

one_truth : (a b : Bool) → IsProp (a ≡ b)
one_truth = Coded-set coded_bool

IsStill-prop : (simple : Simple) → IsProp (IsStill simple)
IsStill-prop (CallAlone function arguments) = Unit-prop
IsStill-prop (Close channel) = Unit-prop
IsStill-prop (Print line parts trailing) = Unit-prop
IsStill-prop (ReceiveAlone channel) = Unit-prop
IsStill-prop (Send channel value) = Unit-prop
IsStill-prop (Increment place) = Unit-prop
IsStill-prop (Decrement place) = Unit-prop
IsStill-prop (Assign places values) = Unit-prop
IsStill-prop (Define names values) = elim [ ]
IsStill-prop (Update place operator value) = Unit-prop

StillAny-prop : (post : Option Simple) → IsProp (StillAny post)
StillAny-prop None = Unit-prop
StillAny-prop (Some simple) = IsStill-prop simple

mutual
  FormedStatement-prop : (statement : Statement) → IsProp (FormedStatement statement)
  FormedStatement-prop Empty = Unit-prop
  FormedStatement-prop (Alone simple) = one_truth _ _
  FormedStatement-prop (VarTyped names kind right) = Unit-prop
  FormedStatement-prop (VarUntyped names right) = Unit-prop
  FormedStatement-prop (Block body) = FormedAll-prop body
  FormedStatement-prop (If branch) = FormedBranch-prop branch
  FormedStatement-prop (For Forever body) = FormedAll-prop body
  FormedStatement-prop (For (While condition) body) = FormedAll-prop body
  FormedStatement-prop (For (ForClauses first condition post) body) = λ a b i. (StillAny-prop post a.0 b.0 i, FormedAll-prop body a.1 b.1 i, one_truth _ _ a.2 b.2 i, one_truth _ _ a.3 b.3 i)
  FormedStatement-prop (For (Range _ channel) body) = FormedAll-prop body
  FormedStatement-prop (Select clauses) = FormedClauses-prop clauses
  FormedStatement-prop (Go function arguments) = Unit-prop
  FormedStatement-prop (Return returned) = Unit-prop
  FormedStatement-prop Break = Unit-prop
  FormedStatement-prop Continue = Unit-prop

  FormedAll-prop : (body : Statements) → IsProp (FormedAll body)
  FormedAll-prop NoStatement = Unit-prop
  FormedAll-prop (Then first rest) = ×_prop (FormedStatement-prop first) (FormedAll-prop rest)

  FormedBranch-prop : (branch : Branch) → IsProp (FormedBranch branch)
  FormedBranch-prop (Conditional head condition body otherwise) = λ a b i. (FormedAll-prop body a.0 b.0 i, FormedOtherwise-prop otherwise a.1 b.1 i, one_truth _ _ a.2 b.2 i)

  FormedOtherwise-prop : (otherwise : Otherwise) → IsProp (FormedOtherwise otherwise)
  FormedOtherwise-prop NoElse = Unit-prop
  FormedOtherwise-prop (ElseBlock body) = FormedAll-prop body
  FormedOtherwise-prop (ElseIf branch) = FormedBranch-prop branch

  FormedClauses-prop : (clauses : Clauses) → IsProp (FormedClauses clauses)
  FormedClauses-prop NoClause = Unit-prop
  FormedClauses-prop (Clause comm body rest) = ×_prop (FormedAll-prop body) (FormedClauses-prop rest)

FormedTops-prop : (tops : List Top) → IsProp (FormedTops tops)
FormedTops-prop [] = Unit-prop
FormedTops-prop (StructTop struct ∷ rest) = FormedTops-prop rest
FormedTops-prop (FunctionTop function ∷ rest) = ×_prop (FormedAll-prop function.body) (FormedTops-prop rest)

AllNamed-prop : (groups : List Declared) → IsProp (AllNamed groups)
AllNamed-prop [] = Unit-prop
AllNamed-prop (group ∷ rest) = ×_prop le_prop (AllNamed-prop rest)

NamedTops-prop : (tops : List Top) → IsProp (NamedTops tops)
NamedTops-prop [] = Unit-prop
NamedTops-prop (StructTop struct ∷ rest) = ×_prop (AllNamed-prop struct.fields) (NamedTops-prop rest)
NamedTops-prop (FunctionTop function ∷ rest) = NamedTops-prop rest

pub IsGrammatical-prop : (file : File) → IsProp (IsGrammatical file)
IsGrammatical-prop file a b = λ i. record { formed = FormedTops-prop file.tops a.formed b.formed i; named = NamedTops-prop file.tops a.named b.named i }
