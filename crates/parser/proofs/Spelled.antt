-- What is spelled is a file of the grammar: an operator that assigns is one of arithmetic, no post statement declares
-- anything, and each group of fields declares a name.
use Rattle.std.proofs.Common.{◌≡◌, ℕ, ◌<◌, ◌≤◌, Bool, true, false, refl, List, [], ◌∷◌, length, Option, Some, None, arith}
use Rattle.syntax.specs.declared.node.BinaryOperator.{BinaryOperator}
use Rattle.syntax.specs.declared.node.BinaryOperator.TheVariants as binaries
use Rattle.syntax.specs.Grammar.{is_arithmetic, is_formed, any_formed, head_formed, IsStill, StillAny, FormedStatement, FormedAll, FormedBranch, FormedOtherwise, FormedClauses, FormedTops, AllNamed, NamedTops, IsGrammatical}
use Rattle.syntax.specs.Tree.{Simple, CallAlone, Close, Print, ReceiveAlone, Send, Increment, Decrement, Assign, Define, Update, IfHead, Bare, Semicolon, First, Forever, While, ForClauses, Range, Statement, Empty, Alone, VarTyped, VarUntyped, Block, If, For, Select, Go, Return, Break, Continue, Statements, NoStatement, Then, statements_in, Branch, Conditional, Otherwise, NoElse, ElseBlock, ElseIf, Clauses, NoClause, Clause, Declared, Top, StructTop, FunctionTop, File}
use Rattle.parser_base.specs.Lexemes.{Lexeme}
use Rattle.parser_base.specs.Spelling.{precedence, AreAll, AreSome}
use Rattle.parser_simple.specs.Spelling.{IsSimple, IsName}
use Rattle.parser_header.specs.Spelling.{IsAny, IsIfHead}
use Rattle.parser_statement.specs.Spelling.{IsStatement, IsBody, AreStatements, IsBranch, IsOtherwise, AreClauses}
use Rattle.parser.specs.Spelling.{IsDeclared, IsTop, Spells}

arithmetic : (operator : BinaryOperator) → 4 ≤ precedence operator → is_arithmetic operator ≡ true
arithmetic binaries.Add is = refl
arithmetic binaries.Subtract is = refl
arithmetic binaries.Multiply is = refl
arithmetic binaries.Divide is = refl
arithmetic binaries.Remainder is = refl
arithmetic binaries.And is = refl
arithmetic binaries.Or is = refl
arithmetic binaries.ExclusiveOr is = refl
arithmetic binaries.AndNot is = refl
arithmetic binaries.ShiftLeft is = refl
arithmetic binaries.ShiftRight is = refl
arithmetic binaries.Equal is = absurd (let never : ⊥ = omega arith in never)
arithmetic binaries.NotEqual is = absurd (let never : ⊥ = omega arith in never)
arithmetic binaries.Less is = absurd (let never : ⊥ = omega arith in never)
arithmetic binaries.LessEqual is = absurd (let never : ⊥ = omega arith in never)
arithmetic binaries.Greater is = absurd (let never : ⊥ = omega arith in never)
arithmetic binaries.GreaterEqual is = absurd (let never : ⊥ = omega arith in never)
arithmetic binaries.LogicalAnd is = absurd (let never : ⊥ = omega arith in never)
arithmetic binaries.LogicalOr is = absurd (let never : ⊥ = omega arith in never)

formed : (literals defining : Bool) (simple : Simple) → IsSimple literals defining simple → is_formed simple ≡ true
formed literals defining (CallAlone function arguments) is = refl
formed literals defining (Close channel) is = refl
formed literals defining (Print line parts trailing) is = refl
formed literals defining (ReceiveAlone channel) is = refl
formed literals defining (Send channel value) is = refl
formed literals defining (Increment place) is = refl
formed literals defining (Decrement place) is = refl
formed literals defining (Assign places right) is = refl
formed literals defining (Define names right) is = refl
formed literals defining (Update place operator value) is = arithmetic operator is.1

formed_any : (defining : Bool) (one : Option Simple) → IsAny (IsSimple false defining) one → any_formed one ≡ true
formed_any defining None is = refl
formed_any defining (Some simple) is = formed false defining simple is

formed_head : (head : IfHead) → IsIfHead head → head_formed head ≡ true
formed_head Bare is = refl
formed_head Semicolon is = refl
formed_head (First simple) is = formed false true simple is

still : (simple : Simple) → IsSimple false false simple → IsStill simple
still (CallAlone function arguments) is = tt
still (Close channel) is = tt
still (Print line parts trailing) is = tt
still (ReceiveAlone channel) is = tt
still (Send channel value) is = tt
still (Increment place) is = tt
still (Decrement place) is = tt
still (Assign places right) is = tt
still (Define names right) is = absurd cc
still (Update place operator value) is = tt

still_any : (post : Option Simple) → IsAny (IsSimple false false) post → StillAny post
still_any None is = tt
still_any (Some simple) is = still simple is

mutual
  formed_statement : (statement : Statement) → IsStatement statement → FormedStatement statement
  formed_statement Empty is = tt
  formed_statement (Alone simple) is = formed true true simple is
  formed_statement (VarTyped names kind right) is = tt
  formed_statement (VarUntyped names right) is = tt
  formed_statement (Block body) is = formed_body body is
  formed_statement (If branch) is = formed_branch branch is
  formed_statement (For Forever body) is = formed_body body is.1
  formed_statement (For (While condition) body) is = formed_body body is.1
  formed_statement (For (ForClauses first condition post) body) is = (still_any post is.0.2, formed_body body is.1, formed_any true first is.0.0, formed_any false post is.0.2)
  formed_statement (For (Range _ channel) body) is = formed_body body is.1
  formed_statement (Select clauses) is = formed_clauses clauses is
  formed_statement (Go function arguments) is = tt
  formed_statement (Return returned) is = tt
  formed_statement Break is = tt
  formed_statement Continue is = tt

  formed_body : (body : Statements) → IsBody body → FormedAll body
  formed_body NoStatement is = tt
  formed_body (Then first others) is = (formed_statement first is.0, formed_all others is.1)

  formed_all : (body : Statements) → AreStatements body → FormedAll body
  formed_all NoStatement is = tt
  formed_all (Then first others) is = (formed_statement first is.0, formed_all others is.1)

  formed_branch : (branch : Branch) → IsBranch branch → FormedBranch branch
  formed_branch (Conditional head condition body otherwise) is = (formed_body body is.2, formed_otherwise otherwise is.3, formed_head head is.0)

  formed_otherwise : (otherwise : Otherwise) → IsOtherwise otherwise → FormedOtherwise otherwise
  formed_otherwise NoElse is = tt
  formed_otherwise (ElseBlock body) is = formed_body body is
  formed_otherwise (ElseIf branch) is = formed_branch branch is

  formed_clauses : (clauses : Clauses) → AreClauses clauses → FormedClauses clauses
  formed_clauses NoClause is = tt
  formed_clauses (Clause comm body others) is = (formed_body body is.1, formed_clauses others is.2)

formed_list : (body : Statements) → AreAll IsStatement (statements_in body) → FormedAll body
formed_list NoStatement is = tt
formed_list (Then first others) is = (formed_statement first is.0, formed_list others is.1)

formed_some : (body : Statements) → AreSome IsStatement (statements_in body) → FormedAll body
formed_some NoStatement is = tt
formed_some (Then first others) is = (formed_statement first is.0, formed_list others is.1)

has_name : (names : List (List ℕ)) → AreSome IsName names → 0 < length names
has_name [] is = absurd is
has_name (name ∷ names) is = omega arith

named_all : (groups : List Declared) → AreAll IsDeclared groups → AllNamed groups
named_all [] is = tt
named_all (group ∷ rest) is = (has_name group.names is.0.0, named_all rest is.1)

spelled_tops : (tops : List Top) → AreAll IsTop tops → FormedTops tops × NamedTops tops
spelled_tops [] is = (tt, tt)
spelled_tops (StructTop struct ∷ rest) is = let more = spelled_tops rest is.1 in (more.0, (named_all struct.fields is.0.fields, more.1))
spelled_tops (FunctionTop function ∷ rest) is = let more = spelled_tops rest is.1 in ((formed_some function.body is.0.body, more.0), more.1)

-- what spells tokens is a file of the grammar
pub spelled : (words : List Lexeme) (file : File) → Spells words file → IsGrammatical file
spelled words file spells = let both = spelled_tops file.tops spells.well_formed in record { formed = both.0; named = both.1 }
