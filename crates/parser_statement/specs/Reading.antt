-- Reading statements from left to right, as the code does: these words are proved against the grammar (`Spelling`), and
-- claim nothing themselves.
use Rattle.std.specs.Prelude.{ℕ, zero, suc, Bool, true, false, List, [], ◌∷◌, ◌||◌, Option, Some, None, Ok, Err, if◌then◌else◌, length, bytes_eq, codes}
use Rattle.scanner.specs.declared.kind.TokenKind.{TokenKind}
use Rattle.scanner.specs.declared.kind.TokenKind.TheVariants as kinds
use Rattle.syntax.specs.Tree.{Comm, Returned, NoValue, ReturnedValue, Statement, Empty, Alone, VarTyped, VarUntyped, Block, If, For, Select, Go, Return, Break, Continue, Statements, statements, Branch, Conditional, Otherwise, NoElse, ElseBlock, ElseIf, Clauses}
use Rattle.syntax.specs.Measures.{SelectClauses}
use Rattle.syntax.specs.View.{OneClause, clauses}
use Rattle.parser_base.specs.declared.list.Next.{Next}
use Rattle.parser_base.specs.declared.list.Next.TheVariants.{More, End}
use Rattle.parser_base.specs.Lexemes.{Lexeme, Name, Mark}
use Rattle.parser_base.specs.Spelling.{is_builtin}
use Rattle.parser_base.specs.Reading.{Syntax, TooDeep, TooMany, Reading, ◌>>=◌, as_one, needing, expect, plain_name, begins, listed, expression, type_at}
use Rattle.parser_simple.specs.Reading.{after_mark, begins_with, names, arguments, right, simple}
use Rattle.parser_header.specs.Reading.{comm, if_header, for_header}

-- ---- what ends a statement

-- a statement ends before this mark
abbrev pub is_end : TokenKind → Bool
is_end kinds.Semicolon = true
is_end kinds.RightBrace = true
is_end kinds.Case = true
is_end kinds.Default = true
is_end kind = false

-- nothing of a statement is left
unfoldable pub ends_statement : List Lexeme → Bool
ends_statement (Mark kind ∷ rest) = is_end kind
ends_statement words = false

-- what follows a statement of a block
unfoldable pub statement_next : List Lexeme → Reading Next
statement_next (Mark kinds.Semicolon ∷ rest) = Ok (More, rest)
statement_next (Mark kinds.RightBrace ∷ rest) = Ok (End false, rest)
statement_next words = Err Syntax

-- what follows a statement of a clause
unfoldable pub clause_next : List Lexeme → Reading Next
clause_next (Mark kinds.Semicolon ∷ rest) = Ok (More, rest)
clause_next words = if ends_statement words then Ok (End false, words) else Err Syntax

-- ---- statements that contain none

-- a value after `return`, at most `depth_left` levels deep
unfoldable pub returned_value : ℕ → ℕ → List Lexeme → Reading Returned
returned_value most zero words = if begins words then Err TooDeep else Err Syntax
returned_value most (suc depth_left) words = as_one ReturnedValue (expression true most (suc depth_left) 0 words)

-- what follows `return`
unfoldable pub returned : ℕ → ℕ → List Lexeme → Reading Returned
returned most depth_left words = if ends_statement words then Ok (NoValue, words) else returned_value most depth_left words

-- what follows `go`
unfoldable pub started : ℕ → ℕ → List Lexeme → Reading Statement
started most depth_left words = plain_name words >>= λ name. as_one (Go name.0) (arguments true most depth_left name.1)

-- if this mark comes next, what follows it
abbrev pub after_next : {A : Type 0} → TokenKind → (List Lexeme → Reading A) → List Lexeme → Reading (Option A)
after_next kind one words = if begins_with kind words then as_one (λ x. Some x) (after_mark kind one words) else Ok (None, words)

-- the type and the values of what is declared
unfoldable pub typed : List (List ℕ) → ℕ → ℕ → List Lexeme → Reading Statement
typed all most depth_left words = do
  kind ← type_at depth_left words
  value ← after_next kinds.Assign (right true most depth_left) kind.1
  Ok (VarTyped all kind.0 value.0, value.1)

-- the values of what is declared without a type
unfoldable pub untyped : List (List ℕ) → ℕ → ℕ → List Lexeme → Reading Statement
untyped all most depth_left words = as_one (VarUntyped all) (after_mark kinds.Assign (right true most depth_left) words)

-- the names after `var`, and their type or values
unfoldable pub variables : ℕ → ℕ → List Lexeme → Reading Statement
variables most depth_left words =
    names kinds.Comma most words >>= λ all.
    if begins_with kinds.Assign all.1 then untyped all.0.0 most depth_left all.1 else typed all.0.0 most depth_left all.1

-- what follows `var`: a type or values
abbrev pub variable : ℕ → ℕ → List Lexeme → Reading Statement
variable most depth_left words = needing 1 depth_left (variables most depth_left words)

-- a statement after this mark, which contains no other, with at most `depth_left` levels below it
abbrev pub leaf : ℕ → ℕ → TokenKind → List Lexeme → Reading Statement
leaf most depth_left kinds.Go rest = started most depth_left rest
leaf most depth_left kinds.Var rest = variable most depth_left rest
leaf most depth_left kinds.Return rest = as_one Return (returned most depth_left rest)
leaf most depth_left kinds.Break rest = Ok (Break, rest)
leaf most depth_left kinds.Continue rest = Ok (Continue, rest)
leaf most depth_left kind rest = if is_end kind then Ok (Empty, Mark kind ∷ rest) else as_one Alone (simple true true most depth_left (Mark kind ∷ rest))

-- ---- statements that contain others

-- a block, whose statements `one` reads
unfoldable pub braced : (one : List Lexeme → Reading Statement) → List Lexeme → Reading Statements
braced one words = do
  inside ← expect kinds.LeftBrace words
  all ← listed one statement_next Syntax (length inside) inside
  Ok (statements all.0.0, all.1)

-- what follows `else`
unfoldable pub other : (block : List Lexeme → Reading Statements) → (branch : List Lexeme → Reading Branch) → List Lexeme → Reading Otherwise
other block branch words =
    if begins_with kinds.If words then (expect kinds.If words >>= λ after. as_one ElseIf (branch after)) else as_one ElseBlock (block words)

-- an `else`, if there is one
unfoldable pub otherwise : (block : List Lexeme → Reading Statements) → (branch : List Lexeme → Reading Branch) → List Lexeme → Reading Otherwise
otherwise block branch words =
    if begins_with kinds.Else words then (expect kinds.Else words >>= λ after. other block branch after) else Ok (NoElse, words)

-- what follows `if`: a condition, and a block with a statement in it
unfoldable pub branched : ℕ → ℕ → (block : List Lexeme → Reading Statements) → (branch : List Lexeme → Reading Branch) → List Lexeme → Reading Branch
branched most depth_left block branch words = needing 2 depth_left (do
  header ← if_header most depth_left words
  body ← block header.1
  last ← otherwise block branch body.1
  Ok (Conditional header.0.0 header.0.1 body.0 last.0, last.1))

-- what follows `for`: a block with a statement in it
unfoldable pub repeated : ℕ → ℕ → (block : List Lexeme → Reading Statements) → List Lexeme → Reading Statement
repeated most depth_left block words = needing 2 depth_left (for_header most depth_left words >>= λ header. as_one (For header.0) (block header.1))

-- what a clause of a select waits for, at most `depth_left` levels deep
unfoldable pub waited : ℕ → ℕ → List Lexeme → Reading Comm
waited most zero words = Err TooDeep
waited most (suc depth_left) words = comm most depth_left words

-- the statements of a clause, after its colon
unfoldable pub clause_body : (one : List Lexeme → Reading Statement) → Option Comm → List Lexeme → Reading OneClause
clause_body one waits words = do
  inside ← expect kinds.Colon words
  all ← listed one clause_next Syntax (length inside) inside
  Ok (record { comm = waits; body = statements all.0.0 }, all.1)

-- a clause, with at most `depth_left` levels below it
unfoldable pub one_clause : ℕ → ℕ → (one : List Lexeme → Reading Statement) → List Lexeme → Reading OneClause
one_clause most depth_left one (Mark kinds.Case ∷ rest) = needing 2 depth_left (waited most depth_left rest >>= λ waits. clause_body one (Some waits.0) waits.1)
one_clause most depth_left one (Mark kinds.Default ∷ rest) = needing 1 depth_left (clause_body one None rest)
one_clause most depth_left one words = Err Syntax

-- a clause for which no level is left
unfoldable pub no_clause : List Lexeme → Reading OneClause
no_clause (Mark kinds.Case ∷ rest) = Err TooDeep
no_clause (Mark kinds.Default ∷ rest) = Err TooDeep
no_clause words = Err Syntax

-- what follows a statement of a block or, if `clause` holds, of a clause
abbrev pub next_of : (clause : Bool) → List Lexeme → Reading Next
next_of true = clause_next
next_of false = statement_next

-- what follows a clause
unfoldable pub clauses_next : List Lexeme → Reading Next
clauses_next words = if begins_with kinds.RightBrace words then (expect kinds.RightBrace words >>= λ after. Ok (End false, after)) else Ok (More, words)

-- what follows `select`
unfoldable pub selected : ℕ → (clause : List Lexeme → Reading OneClause) → List Lexeme → Reading Clauses
selected most clause words =
    expect kinds.LeftBrace words >>= λ inside.
    if begins_with kinds.RightBrace inside then (expect kinds.RightBrace inside >>= λ after. Ok (clauses [], after))
    else (listed clause clauses_next (TooMany SelectClauses) most inside >>= λ all. Ok (clauses all.0.0, all.1))

-- a statement after this mark, with at most `depth_left` levels below it
abbrev pub marked : ℕ → ℕ → (block : List Lexeme → Reading Statements) → (branch : List Lexeme → Reading Branch) → (clause : List Lexeme → Reading OneClause) → TokenKind → List Lexeme → Reading Statement
marked most depth_left block branch clause kinds.LeftBrace rest = needing 2 depth_left (as_one Block (block (Mark kinds.LeftBrace ∷ rest)))
marked most depth_left block branch clause kinds.If rest = as_one If (branched most depth_left block branch rest)
marked most depth_left block branch clause kinds.For rest = repeated most depth_left block rest
marked most depth_left block branch clause kinds.Select rest = as_one Select (selected most clause rest)
marked most depth_left block branch clause kind rest = leaf most depth_left kind rest

-- a statement, with at most `depth_left` levels below it
unfoldable pub stated : ℕ → ℕ → (block : List Lexeme → Reading Statements) → (branch : List Lexeme → Reading Branch) → (clause : List Lexeme → Reading OneClause) → List Lexeme → Reading Statement
stated most depth_left block branch clause (Mark kind ∷ rest) = marked most depth_left block branch clause kind rest
stated most depth_left block branch clause words = as_one Alone (simple true true most depth_left words)

-- at most `depth_left` levels deep, with lists of at most `most` entries
unfoldable mutual
  -- a statement
  pub statement : ℕ → ℕ → List Lexeme → Reading Statement
  statement most zero words = Err TooDeep
  statement most (suc depth_left) words = stated most depth_left (block most depth_left) (branch most depth_left) (clause most depth_left) words

  -- a block
  pub block : ℕ → ℕ → List Lexeme → Reading Statements
  block most zero words = Err TooDeep
  block most (suc depth_left) words = braced (statement most depth_left) words

  -- what follows an `if`
  pub branch : ℕ → ℕ → List Lexeme → Reading Branch
  branch most zero words = Err TooDeep
  branch most (suc depth_left) words = branched most depth_left (block most depth_left) (branch most depth_left) words

  -- a clause of a select
  pub clause : ℕ → ℕ → List Lexeme → Reading OneClause
  clause most zero words = no_clause words
  clause most (suc depth_left) words = one_clause most depth_left (statement most depth_left) words
