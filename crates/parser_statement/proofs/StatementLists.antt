-- The statements of a block and the clauses of a select, as lists.
use Rattle.std.proofs.Common.{◌≡◌, ℕ, suc, ◌≤◌, max, List, [], ◌∷◌, length, refl, ap, arith}
use Rattle.scanner.specs.declared.kind.TokenKind.TheVariants as kinds
use Rattle.syntax.specs.Tree.{Statements, NoStatement, Then, statements_in, Clauses, NoClause, Clause}
use Rattle.syntax.specs.Measures.{Listing, Entries, SelectClauses, highest, if_any, comm_height, comm_longest, statement_height, statements_height, statement_longest, statements_longest, clauses_height, clauses_longest, clauses_count, clauses as clause_entries}
use Rattle.syntax.specs.View.{OneClause, clauses}
use Rattle.parser_base.specs.Lexemes.{Lexeme}
use Rattle.parser_base.specs.Spelling.{following, separated, joined, AreAll, AreSome}
use Rattle.parser_base.proofs.ListLaws.{AreFew}
use Rattle.parser_header.specs.Spelling.{IsAny, IsComm}
use Rattle.parser_statement.specs.Spelling.{clause_start, statement_words, body_words, more_words, clauses_words, IsStatement, IsBody, AreStatements, AreClauses}

-- ---- statements

pub more_list : (body : Statements) (rest : List Lexeme) → more_words body rest ≡ separated statement_words (following kinds.Semicolon) (statements_in body) rest
more_list NoStatement rest = refl
more_list (Then s ss) rest = ap (λ (ws : List Lexeme). following kinds.Semicolon (statement_words s ws)) (more_list ss rest)

pub body_list : (body : Statements) (rest : List Lexeme) → body_words body rest ≡ joined statement_words (following kinds.Semicolon) (statements_in body) rest
body_list NoStatement rest = refl
body_list (Then s ss) rest = ap (statement_words s) (more_list ss rest)

pub statements_are : (body : Statements) → AreStatements body → AreAll IsStatement (statements_in body)
statements_are NoStatement are = tt
statements_are (Then s ss) are = (are.0, statements_are ss are.1)

pub are_statements : (body : Statements) → AreAll IsStatement (statements_in body) → AreStatements body
are_statements NoStatement are = tt
are_statements (Then s ss) are = (are.0, are_statements ss are.1)

pub are_body : (body : Statements) → AreSome IsStatement (statements_in body) → IsBody body
are_body NoStatement is = absurd is
are_body (Then s ss) is = (is.0, are_statements ss is.1)

pub body_all : (body : Statements) → IsBody body → AreStatements body
body_all NoStatement is = absurd is
body_all (Then s ss) is = is

pub highest_in : (body : Statements) → highest statement_height (statements_in body) ≡ statements_height body
highest_in NoStatement = refl
highest_in (Then s ss) = omega (arith, highest_in ss)

pub longest_in : (listing : Listing) (body : Statements) → highest (statement_longest listing) (statements_in body) ≡ statements_longest listing body
longest_in listing NoStatement = refl
longest_in listing (Then s ss) = omega (arith, longest_in listing ss)

-- ---- clauses

abbrev pub clauses_in : Clauses → List OneClause
clauses_in NoClause = []
clauses_in (Clause comm body rest) = record { comm = comm; body = body } ∷ clauses_in rest

pub clauses-clauses_in : (all : Clauses) → clauses (clauses_in all) ≡ all
clauses-clauses_in NoClause = refl
clauses-clauses_in (Clause comm body rest) = ap (Clause comm body) (clauses-clauses_in rest)

pub clauses_in-clauses : (all : List OneClause) → clauses_in (clauses all) ≡ all
clauses_in-clauses [] = refl
clauses_in-clauses (first ∷ rest) = ap (λ (xs : List OneClause). first ∷ xs) (clauses_in-clauses rest)

abbrev pub clause_words : OneClause → List Lexeme → List Lexeme
clause_words clause rest = clause_start clause.comm (body_words clause.body rest)

abbrev pub IsClause : OneClause → Type 0
IsClause clause = IsAny IsComm clause.comm × IsBody clause.body

abbrev pub clause_height : OneClause → ℕ
clause_height clause = suc (max (if_any comm_height clause.comm) (statements_height clause.body))

abbrev pub clause_longest : Listing → OneClause → ℕ
clause_longest listing clause = max (if_any (comm_longest listing) clause.comm) (statements_longest listing clause.body)

-- nothing separates two clauses
abbrev pub unseparated : List Lexeme → List Lexeme
unseparated words = words

pub clauses_list : (all : Clauses) (rest : List Lexeme) → clauses_words all rest ≡ separated clause_words unseparated (clauses_in all) rest
clauses_list NoClause rest = refl
clauses_list (Clause comm body others) rest = ap (λ (ws : List Lexeme). clause_start comm (body_words body ws)) (clauses_list others rest)

pub clauses_are : (all : Clauses) → AreClauses all → AreAll IsClause (clauses_in all)
clauses_are NoClause are = tt
clauses_are (Clause comm body others) are = ((are.0, are.1), clauses_are others are.2)

pub are_clauses : (all : Clauses) → AreAll IsClause (clauses_in all) → AreClauses all
are_clauses NoClause are = tt
are_clauses (Clause comm body others) are = (are.0.0, are.0.1, are_clauses others are.1)

pub clauses_highest : (all : Clauses) → highest clause_height (clauses_in all) ≡ clauses_height all
clauses_highest NoClause = refl
clauses_highest (Clause comm body others) = omega (arith, clauses_highest others)

pub clauses_longest_in : (listing : Listing) (all : Clauses) → highest (clause_longest listing) (clauses_in all) ≡ clauses_longest listing all
clauses_longest_in listing NoClause = refl
clauses_longest_in listing (Clause comm body others) = omega (arith, clauses_longest_in listing others)

pub clauses_length : (all : Clauses) → length (clauses_in all) ≡ clauses_count all
clauses_length NoClause = refl
clauses_length (Clause comm body others) = omega (arith, clauses_length others)

-- a list has no more entries than it counts
pub clause_entries-le : (listing : Listing) (n : ℕ) → clause_entries listing n ≤ n
clause_entries-le Entries n = omega arith
clause_entries-le SelectClauses n = omega arith

-- if a select has at most `most` clauses, and no list in it is longer
pub clause_entries_few : (most : ℕ) (all : Clauses) → clauses_count all ≤ most → AreFew (λ listing. clauses_longest listing all) most → AreFew (λ listing. max (clause_entries listing (clauses_count all)) (clauses_longest listing all)) most
clause_entries_few most all count few listing = omega (arith, few listing, clause_entries-le listing (clauses_count all))
