-- Reading from left to right, as the code does: these words are proved against the grammar (`Spelling`), and claim
-- nothing themselves.
use Rattle.std.specs.Prelude.{ℕ, zero, suc, ◌-◌, Bool, false, Option, Some, None, List, [], ◌∷◌, Result, Ok, Err, if◌then◌else◌, length, codes}
use Rattle.scanner.specs.declared.kind.TokenKind.{TokenKind}
use Rattle.scanner.specs.declared.kind.TokenKind.TheVariants as kinds
use Rattle.syntax.specs.Tree.{TypeExpression, Statement, statements, Declared, Top, StructTop, FunctionTop, File}
use Rattle.syntax.specs.Measures.{Entries}
use Rattle.parser_base.specs.declared.list.Next.{Next}
use Rattle.parser_base.specs.declared.list.Next.TheVariants.{More, End}
use Rattle.parser_base.specs.Lexemes.{Lexeme}
use Rattle.parser_base.specs.Reading.{Refusal, Syntax, TooMany, Reading, ◌>>=◌, expect, expect_name, plain_name, listed, followed, entry_next, type_at, as_one}
use Rattle.parser_simple.specs.Reading.{begins_with, begins_name, names}
use Rattle.parser_statement.specs.Reading.{statement, statement_next}

-- ---- fields and parameters

-- at most `most` names, and their type, of at most `depth_left` levels
unfoldable pub declared : ℕ → ℕ → List Lexeme → Reading Declared
declared most depth_left words = do
  all ← names kinds.Comma most words
  kind ← type_at depth_left all.1
  Ok (record { names = all.0.0; type_expression = kind.0 }, kind.1)

-- at least one and at most `most` fields or parameters, to the closing mark; `left` is how many names
-- there may still be
unfoldable pub some_declared : (separator close : TokenKind) → (depth_left most left : ℕ) → List Lexeme → Reading (List Declared × Bool)
some_declared separator close depth_left zero left words = Err (TooMany Entries)
some_declared separator close depth_left (suc most) left words =
    declared left depth_left words >>= λ first. entry_next separator begins_name close first.1 >>= λ after.
    followed first.0 (some_declared separator close depth_left most (left - length first.0.names)) after

-- fields or parameters to the closing mark
unfoldable pub all_declared : (separator close : TokenKind) → (most depth_left : ℕ) → List Lexeme → Reading (List Declared × Bool)
all_declared separator close most depth_left words =
    if begins_name words then some_declared separator close depth_left most most words
    else (expect close words >>= λ after. Ok (([], false), after))

-- ---- declarations

-- a struct type, with types of at most `depth_left` levels
unfoldable pub structure : ℕ → ℕ → List Lexeme → Reading Top
structure most depth_left words = do
  first ← expect kinds.TypeKeyword words
  name ← plain_name first
  keyword ← expect kinds.Struct name.1
  brace ← expect kinds.LeftBrace keyword
  fields ← all_declared kinds.Semicolon kinds.RightBrace most depth_left brace
  Ok (StructTop (record { name = name.0; fields = fields.0.0; trailing = fields.0.1 }), fields.1)

-- the type of a function's result, if there is one before its block
unfoldable pub result_type : ℕ → List Lexeme → Reading (Option TypeExpression)
result_type depth_left words = if begins_with kinds.LeftBrace words then Ok (None, words) else as_one (λ kind. Some kind) (type_at depth_left words)

-- the statements of a function's block
unfoldable pub block : ℕ → ℕ → List Lexeme → Reading (List Statement × Bool)
block most depth_left words = expect kinds.LeftBrace words >>= λ rest. listed (statement most depth_left) statement_next Syntax (length rest) rest

-- a function, with statements and types of parameters of at most `depth_left` levels
unfoldable pub function : ℕ → ℕ → List Lexeme → Reading Top
function most depth_left words = do
  first ← expect kinds.Func words
  name ← plain_name first
  open' ← expect kinds.LeftParenthesis name.1
  parameters ← all_declared kinds.Comma kinds.RightParenthesis most depth_left open'
  kind ← result_type (suc depth_left) parameters.1
  body ← block most depth_left kind.1
  Ok (FunctionTop (record { name = name.0; parameters = parameters.0.0; trailing = parameters.0.1; result = kind.0; body = statements body.0.0 }), body.1)

unfoldable pub top : ℕ → ℕ → List Lexeme → Reading Top
top most depth_left words = if begins_with kinds.TypeKeyword words then structure most depth_left words else function most depth_left words

-- ---- files

-- what follows a declaration: a semicolon, and then another one or the file's end
abbrev pub more_tops : List Lexeme → Next × List Lexeme
more_tops [] = (End false, [])
more_tops (word ∷ rest) = (More, word ∷ rest)

unfoldable pub top_next : List Lexeme → Reading Next
top_next words = expect kinds.Semicolon words >>= λ rest. Ok (more_tops rest)

-- declarations to the file's end
unfoldable pub tops : ℕ → ℕ → List Lexeme → Reading (List Top × Bool)
tops most depth_left [] = Ok (([], false), [])
tops most depth_left (word ∷ rest) = listed (top most depth_left) top_next Syntax (length (word ∷ rest)) (word ∷ rest)

-- a file with statements of at most `depth_left` levels, whose lists have at most `most` entries
unfoldable pub file : ℕ → ℕ → List Lexeme → Result File Refusal
file most depth_left words = do
  clause ← expect kinds.Package words
  main ← expect_name (codes "main") clause
  semicolon ← expect kinds.Semicolon main
  all ← tops most depth_left semicolon
  Ok (record { tops = all.0.0 })
