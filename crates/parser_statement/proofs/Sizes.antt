-- A statement has no more nodes than lexemes, and one.
use Rattle.std.proofs.Common.{◌≡◌, ◌+◌, ◌≤◌, List, [], ◌∷◌, ◌++◌, length, sum_by, refl, arith, length-append, Option, Some, None}
use Rattle.std.proofs.lemmas.List.Sums.{sum_by-cons}
use Rattle.scanner.specs.declared.kind.TokenKind.TheVariants as kinds
use Rattle.syntax.specs.Tree.{Expression, Comm, Returned, NoValue, ReturnedValue, Statement, Statements, NoStatement, Then, Empty, Alone, VarTyped, VarUntyped, Block, If, For, Select, Go, Return, Break, Continue, Branch, Conditional, Otherwise, NoElse, ElseBlock, ElseIf, Clauses, NoClause, Clause, statements_in}
use Rattle.syntax.specs.Measures.{expression_size, comm_size, returned_size, statement_size, statements_size, branch_size, otherwise_size, clauses_size, if_any}
use Rattle.parser_base.specs.Lexemes.{Lexeme, Mark}
use Rattle.parser_base.specs.Spelling.{following, AreAll, AreSome, separated, joined, before, type_words}
use Rattle.parser_base.proofs.TypeLaws.{type_size-le}
use Rattle.parser_simple.specs.Spelling.{right_words}
use Rattle.parser_statement.specs.Spelling.{returned_words, initial_words, clause_start, statement_words, body_words, more_words, branch_words, otherwise_words, clauses_words, IsStatement}
use Rattle.parser_simple.proofs.Sizes.{value_size, arguments_grow, right_grows, names_grow, simple_grows, simple_positive}
use Rattle.parser_header.proofs.Sizes.{if_head_grows, for_head_grows, comm_grows}

-- ---- what follows `return`, `var` and `case`

returned_grows : (r : Returned) (rest : List Lexeme) → returned_size r + length rest ≤ length (returned_words r rest)
returned_grows NoValue rest = omega arith
returned_grows (ReturnedValue v) rest = value_size v rest

initial_grows : (r : Option (List Expression)) (rest : List Lexeme) → if_any (sum_by expression_size) r + length rest ≤ length (initial_words r rest)
initial_grows None rest = omega arith
initial_grows (Some r) rest = omega (arith, right_grows r rest)

start_grows : (c : Option Comm) (rest : List Lexeme) → if_any comm_size c + length rest + 2 ≤ length (clause_start c rest)
start_grows None rest = omega arith
start_grows (Some c) rest = omega (arith, comm_grows c (Mark kinds.Colon ∷ rest))

-- ---- statements

-- an empty statement has no lexeme, but each is separated from the next
mutual
  grows : (s : Statement) (rest : List Lexeme) → statement_size s + length rest ≤ length (statement_words s rest) + 1
  grows Empty rest = omega arith
  grows (Alone s) rest = omega (arith, simple_grows s rest)
  grows (VarTyped ns t r) rest =
      omega (arith, names_grow ns (type_words t ++ initial_words r rest), type_size-le t, initial_grows r rest, length-append (type_words t) (initial_words r rest))
  grows (VarUntyped ns r) rest = omega (arith, names_grow ns (Mark kinds.Assign ∷ right_words r rest), right_grows r rest)
  grows (Block body) rest = omega (arith, body_grows body (Mark kinds.RightBrace ∷ rest))
  grows (If b) rest = omega (arith, branch_grows b rest)
  grows (For h body) rest =
      let block = Mark kinds.LeftBrace ∷ body_words body (Mark kinds.RightBrace ∷ rest) in
      omega (arith, for_head_grows h block, body_grows body (Mark kinds.RightBrace ∷ rest))
  grows (Select all) rest = omega (arith, clauses_grow all (Mark kinds.RightBrace ∷ rest))
  grows (Go f all) rest = omega (arith, arguments_grow all rest)
  grows (Return r) rest = omega (arith, returned_grows r rest)
  grows Break rest = omega arith
  grows Continue rest = omega arith

  body_grows : (body : Statements) (rest : List Lexeme) → statements_size body + length rest ≤ length (body_words body rest) + 1
  body_grows NoStatement rest = omega arith
  body_grows (Then s ss) rest = omega (arith, grows s (more_words ss rest), more_grow ss rest)

  more_grow : (body : Statements) (rest : List Lexeme) → statements_size body + length rest ≤ length (more_words body rest)
  more_grow NoStatement rest = omega arith
  more_grow (Then s ss) rest = omega (arith, grows s (more_words ss rest), more_grow ss rest)

  branch_grows : (b : Branch) (rest : List Lexeme) → branch_size b + length rest ≤ length (branch_words b rest) + 1
  branch_grows (Conditional h c body o) rest =
      let last = otherwise_words o rest in
      let block = Mark kinds.LeftBrace ∷ body_words body (Mark kinds.RightBrace ∷ last) in
      omega (arith, if_head_grows h (before c block), value_size c block, body_grows body (Mark kinds.RightBrace ∷ last), otherwise_grows o rest)

  otherwise_grows : (o : Otherwise) (rest : List Lexeme) → otherwise_size o + length rest ≤ length (otherwise_words o rest)
  otherwise_grows NoElse rest = omega arith
  otherwise_grows (ElseBlock body) rest = omega (arith, body_grows body (Mark kinds.RightBrace ∷ rest))
  otherwise_grows (ElseIf b) rest = omega (arith, branch_grows b rest)

  clauses_grow : (all : Clauses) (rest : List Lexeme) → clauses_size all + length rest ≤ length (clauses_words all rest)
  clauses_grow NoClause rest = omega arith
  clauses_grow (Clause c body others) rest =
      let following' = clauses_words others rest in
      omega (arith, start_grows c (body_words body following'), body_grows body following', clauses_grow others rest)

pub statement_grows : (s : Statement) (rest : List Lexeme) → IsStatement s → statement_size s + length rest ≤ length (statement_words s rest) + 1
statement_grows s rest is = grows s rest

branch_positive : (b : Branch) → 1 ≤ branch_size b
branch_positive (Conditional h c body o) = omega arith

positive : (s : Statement) → 1 ≤ statement_size s
positive Empty = omega arith
positive (Alone s) = simple_positive s
positive (VarTyped ns t r) = omega arith
positive (VarUntyped ns r) = omega arith
positive (Block body) = omega arith
positive (If b) = branch_positive b
positive (For h body) = omega arith
positive (Select all) = omega arith
positive (Go f all) = omega arith
positive (Return r) = omega arith
positive Break = omega arith
positive Continue = omega arith

-- a statement takes away no word
pub statement_longer : (s : Statement) (rest : List Lexeme) → IsStatement s → length rest ≤ length (statement_words s rest)
statement_longer s rest is = omega (arith, grows s rest, positive s)

pub separated_grows : (ss : List Statement) (rest : List Lexeme) → AreAll IsStatement ss → sum_by statement_size ss + length rest ≤ length (separated statement_words (following kinds.Semicolon) ss rest)
separated_grows [] rest are = omega arith
separated_grows (s ∷ ss) rest are =
    omega (arith, sum_by-cons statement_size s ss, separated_grows ss rest are.1, statement_grows s (separated statement_words (following kinds.Semicolon) ss rest) are.0)

-- there are no more statements than words
pub separated_longer : (ss : List Statement) (rest : List Lexeme) → AreAll IsStatement ss → 1 ≤ length rest → length ss + 1 ≤ length (separated statement_words (following kinds.Semicolon) ss rest)
separated_longer [] rest are some = omega (arith, some)
separated_longer (s ∷ ss) rest are some =
    omega (arith, separated_longer ss rest are.1 some, statement_longer s (separated statement_words (following kinds.Semicolon) ss rest) are.0)

pub joined_grows : (ss : List Statement) (rest : List Lexeme) → AreSome IsStatement ss → sum_by statement_size ss + length rest ≤ length (joined statement_words (following kinds.Semicolon) ss rest) + 1
joined_grows [] rest are = absurd are
joined_grows (s ∷ ss) rest are =
    omega (arith, sum_by-cons statement_size s ss, separated_grows ss rest are.1, statement_grows s (separated statement_words (following kinds.Semicolon) ss rest) are.0)

pub sum_in : (ss : Statements) → sum_by statement_size (statements_in ss) ≡ statements_size ss
sum_in NoStatement = refl
sum_in (Then s ss) = omega (arith, sum_by-cons statement_size s (statements_in ss), sum_in ss)
