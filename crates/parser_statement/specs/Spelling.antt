-- The one list of lexemes that spells a statement.
--
-- Each of the words below is what is before what follows: `statement_words statement rest` is the statement, and
-- then `rest`.
use Rattle.std.specs.Prelude.{ℕ, true, false, List, ◌∷◌, ◌++◌, Option, Some, None}
use Rattle.scanner.specs.declared.kind.TokenKind.TheVariants as kinds
use Rattle.syntax.specs.Tree.{Expression, Comm, Returned, NoValue, ReturnedValue, Statement, Empty, Alone, VarTyped, VarUntyped, Block, If, For, Select, Go, Return, Break, Continue, Statements, NoStatement, Then, Branch, Conditional, Otherwise, NoElse, ElseBlock, ElseIf, Clauses, NoClause, Clause}
use Rattle.parser_base.specs.Lexemes.{Lexeme, Name, Mark}
use Rattle.parser_base.specs.Spelling.{following, joined, before, AreSome, IsGrouped, type_words, IsType}
use Rattle.parser_simple.specs.Spelling.{name_words, IsName, arguments_words, AreArguments, right_words, IsRight, simple_words, IsSimple}
use Rattle.parser_header.specs.Spelling.{IsAny, comm_words, IsComm, if_head_words, IsIfHead, for_head_words, IsForHead}

-- ---- what follows `return` and `var`

abbrev pub returned_words : Returned → List Lexeme → List Lexeme
returned_words NoValue rest = rest
returned_words (ReturnedValue value) rest = before value rest

abbrev pub IsReturned : Returned → Type 0
IsReturned NoValue = Unit {0}
IsReturned (ReturnedValue value) = IsGrouped true value

-- the first values of what is declared, if there are any
abbrev pub initial_words : Option (List Expression) → List Lexeme → List Lexeme
initial_words None rest = rest
initial_words (Some right) rest = Mark kinds.Assign ∷ right_words right rest

abbrev pub names_words : List (List ℕ) → List Lexeme → List Lexeme
names_words names rest = joined name_words (following kinds.Comma) names rest

-- ---- statements

-- a clause of a select to its colon
abbrev pub clause_start : Option Comm → List Lexeme → List Lexeme
clause_start None rest = Mark kinds.Default ∷ Mark kinds.Colon ∷ rest
clause_start (Some comm) rest = Mark kinds.Case ∷ comm_words comm (Mark kinds.Colon ∷ rest)

abbrev mutual
  pub statement_words : Statement → List Lexeme → List Lexeme
  statement_words Empty rest = rest
  statement_words (Alone simple) rest = simple_words simple rest
  statement_words (VarTyped names kind right) rest = Mark kinds.Var ∷ names_words names (type_words kind ++ initial_words right rest)
  statement_words (VarUntyped names right) rest = Mark kinds.Var ∷ names_words names (Mark kinds.Assign ∷ right_words right rest)
  statement_words (Block body) rest = Mark kinds.LeftBrace ∷ body_words body (Mark kinds.RightBrace ∷ rest)
  statement_words (If branch) rest = Mark kinds.If ∷ branch_words branch rest
  statement_words (For head body) rest = Mark kinds.For ∷ for_head_words head (Mark kinds.LeftBrace ∷ body_words body (Mark kinds.RightBrace ∷ rest))
  statement_words (Select clauses) rest = Mark kinds.Select ∷ Mark kinds.LeftBrace ∷ clauses_words clauses (Mark kinds.RightBrace ∷ rest)
  statement_words (Go function arguments) rest = Mark kinds.Go ∷ Name function ∷ arguments_words arguments rest
  statement_words (Return returned) rest = Mark kinds.Return ∷ returned_words returned rest
  statement_words Break rest = Mark kinds.Break ∷ rest
  statement_words Continue rest = Mark kinds.Continue ∷ rest

  -- the statements of a block or a clause, with a semicolon between each two
  pub body_words : Statements → List Lexeme → List Lexeme
  body_words NoStatement rest = rest
  body_words (Then first others) rest = statement_words first (more_words others rest)

  -- each of these after a semicolon
  pub more_words : Statements → List Lexeme → List Lexeme
  more_words NoStatement rest = rest
  more_words (Then first others) rest = Mark kinds.Semicolon ∷ statement_words first (more_words others rest)

  -- what follows `if`
  pub branch_words : Branch → List Lexeme → List Lexeme
  branch_words (Conditional head condition body otherwise) rest =
      if_head_words head (before condition (Mark kinds.LeftBrace ∷ body_words body (Mark kinds.RightBrace ∷ otherwise_words otherwise rest)))

  pub otherwise_words : Otherwise → List Lexeme → List Lexeme
  otherwise_words NoElse rest = rest
  otherwise_words (ElseBlock body) rest = Mark kinds.Else ∷ Mark kinds.LeftBrace ∷ body_words body (Mark kinds.RightBrace ∷ rest)
  otherwise_words (ElseIf branch) rest = Mark kinds.Else ∷ Mark kinds.If ∷ branch_words branch rest

  pub clauses_words : Clauses → List Lexeme → List Lexeme
  clauses_words NoClause rest = rest
  clauses_words (Clause comm body others) rest = clause_start comm (body_words body (clauses_words others rest))

abbrev mutual
  pub IsStatement : Statement → Type 0
  IsStatement Empty = Unit {0}
  IsStatement (Alone simple) = IsSimple true true simple
  IsStatement (VarTyped names kind right) = AreSome IsName names × IsType kind × IsAny (IsRight true) right
  IsStatement (VarUntyped names right) = AreSome IsName names × IsRight true right
  IsStatement (Block body) = IsBody body
  IsStatement (If branch) = IsBranch branch
  IsStatement (For head body) = IsForHead head × IsBody body
  IsStatement (Select clauses) = AreClauses clauses
  IsStatement (Go function arguments) = IsName function × AreArguments true arguments
  IsStatement (Return returned) = IsReturned returned
  IsStatement Break = Unit {0}
  IsStatement Continue = Unit {0}

  -- at least one statement, which may be empty
  pub IsBody : Statements → Type 0
  IsBody NoStatement = ⊥
  IsBody (Then first others) = IsStatement first × AreStatements others

  pub AreStatements : Statements → Type 0
  AreStatements NoStatement = Unit {0}
  AreStatements (Then first others) = IsStatement first × AreStatements others

  pub IsBranch : Branch → Type 0
  IsBranch (Conditional head condition body otherwise) = IsIfHead head × IsGrouped false condition × IsBody body × IsOtherwise otherwise

  pub IsOtherwise : Otherwise → Type 0
  IsOtherwise NoElse = Unit {0}
  IsOtherwise (ElseBlock body) = IsBody body
  IsOtherwise (ElseIf branch) = IsBranch branch

  pub AreClauses : Clauses → Type 0
  AreClauses NoClause = Unit {0}
  AreClauses (Clause comm body others) = IsAny IsComm comm × IsBody body × AreClauses others
