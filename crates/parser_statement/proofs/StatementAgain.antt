-- Statements: what is spelt is read.
use Rattle.std.proofs.Common.{◌≡◌, ℕ, zero, suc, ◌≤◌, Bool, true, false, Option, Some, None, max, List, [], ◌∷◌, length, Ok, refl, ap, ◌∙◌, subst, arith}
use Rattle.std.proofs.lemmas.Bool.{false≢true}
use Rattle.scanner.specs.declared.kind.TokenKind.TheVariants as kinds
use Rattle.syntax.specs.Tree.{Expression, TypeExpression, Arguments, Returned, Simple, CallAlone, Close, Print, ReceiveAlone, Send, Increment, Decrement, Assign, Define, Update, IfHead, ForHead, Comm, CommSend, CommReceive, CommDefine, CommAssign, Statement, Empty, Alone, VarTyped, VarUntyped, Block, If, For, Select, Go, Return, Break, Continue, Statements, NoStatement, Then, statements_in, statements as made_statements, Branch, Conditional, Otherwise, NoElse, ElseBlock, ElseIf, Clauses, NoClause, Clause}
use Rattle.syntax.specs.Measures.{SelectClauses, clauses as clause_entries, if_any, comm_height, comm_longest, statement_height, statements_height, branch_height, otherwise_height, block_height, clauses_height, statement_longest, statements_longest, branch_longest, otherwise_longest, clauses_longest, clauses_count}
use Rattle.syntax.specs.View.{OneClause, clauses}
use Rattle.syntax.proofs.Lists.{statements-statements_in}
use Rattle.parser_base.specs.declared.list.Next.{Next}
use Rattle.parser_base.specs.declared.list.Next.TheVariants.{More, End}
use Rattle.parser_base.specs.Lexemes.{Lexeme, Literal, Name, Text, Mark}
use Rattle.parser_base.specs.Spelling.{following, before, separated, AreAll}
use Rattle.parser_base.specs.Reading.{Syntax, TooMany, Reading, ◌>>=◌, as_one, expect, begins, listed}
use Rattle.parser_base.proofs.ListLaws.{ReadBack, Found, High, Many, Found as AllFound, High as AllHigh, Many as AllMany, Full, Entries, IsReadAgain, Separates, listed_again}
use Rattle.parser_base.proofs.ExpressionAgain.{begins_again, height_positive}
use Rattle.parser_base.proofs.Steps.{then_again, made_again, needing_again, gave}
use Rattle.parser_simple.specs.Spelling.{simple_words, IsSimple}
use Rattle.parser_simple.specs.Reading.{begins_with, simple}
use Rattle.parser_simple.proofs.SimpleLaws.{simple_again}
use Rattle.parser_header.specs.Spelling.{IsAny, comm_words, IsComm, IsForHead}
use Rattle.parser_header.proofs.HeaderLaws.{if_header_again, for_header_again}
use Rattle.parser_header.proofs.CommLaws.{comm_below_is, comm_again}
use Rattle.parser_statement.specs.Spelling.{clause_start, statement_words, body_words, branch_words, otherwise_words, clauses_words, IsStatement, IsBody, AreStatements, IsBranch, IsOtherwise, AreClauses}
use Rattle.parser_statement.specs.Reading.{ends_statement, statement_next, clause_next, braced, other, otherwise, branched, repeated, waited, clause_body, one_clause, no_clause, clauses_next, selected, stated, statement, block, branch, clause}
use Rattle.parser_statement.proofs.Sizes.{statement_longer, separated_longer}
use Rattle.parser_statement.proofs.StatementLists.{more_list, statements_are, body_all, highest_in, longest_in, clauses_in, clauses-clauses_in, clause_words, IsClause, clause_height, clause_longest, unseparated, clauses_list, clauses_are, clauses_highest, clauses_longest_in, clauses_length, clause_entries-le, clause_entries_few}
use Rattle.parser_statement.proofs.LeafLaws.{AtSemicolon, AtBrace, AtCase, AtDefault, ends_stop, StatementOutcome, widened, leaf_go, leaf_return, leaf_untyped, leaf_typed}
use Rattle.parser_statement.proofs.LeafLaws.{Ends}

-- ---- lists of statements

-- statements with a semicolon between each two, whatever follows them
abbrev pub statements_to : (next : List Lexeme → Reading Next) → (ending : List Lexeme → List Lexeme) → (depth_left most : ℕ) → Entries Statement
statements_to next ending depth_left most = record {
  one = statement most depth_left;
  next = next;
  each = statement_words;
  separator = following kinds.Semicolon;
  ending = λ trailing rest. ending rest;
  height = statement_height;
  longest = statement_longest;
  depth_left = depth_left;
  most = most;
  IsOne = IsStatement;
}

-- those of a block, after its first brace
abbrev pub statements : (depth_left most : ℕ) → Entries Statement
statements depth_left most = statements_to statement_next (λ rest. Mark kinds.RightBrace ∷ rest) depth_left most

pub statements_separate : (depth_left most : ℕ) (rest : List Lexeme) → Separates (statements depth_left most) Ends false rest
unfolding statement_next
statements_separate depth_left most rest = record {
  separator = λ s words one. AtSemicolon (statement_words s words);
  more = λ s words one. refl;
  ending = AtBrace rest;
  end = refl;
}

-- what may follow a clause
pub data EndsClause : List Lexeme → Type 0 where
  ClauseAtBrace : (rest : List Lexeme) → EndsClause (Mark kinds.RightBrace ∷ rest)
  ClauseAtCase : (rest : List Lexeme) → EndsClause (Mark kinds.Case ∷ rest)
  ClauseAtDefault : (rest : List Lexeme) → EndsClause (Mark kinds.Default ∷ rest)

clause_ends : (rest : List Lexeme) → EndsClause rest → Ends rest
clause_ends _ (ClauseAtBrace rest) = AtBrace rest
clause_ends _ (ClauseAtCase rest) = AtCase rest
clause_ends _ (ClauseAtDefault rest) = AtDefault rest

-- those of a clause, after its colon
abbrev pub clause_statements : (depth_left most : ℕ) → Entries Statement
clause_statements depth_left most = statements_to clause_next unseparated depth_left most

clause_next_end : (rest : List Lexeme) → EndsClause rest → clause_next rest ≡ Ok (End false, rest)
unfolding clause_next ends_statement
clause_next_end _ (ClauseAtBrace rest) = refl
clause_next_end _ (ClauseAtCase rest) = refl
clause_next_end _ (ClauseAtDefault rest) = refl

clause_separate : (depth_left most : ℕ) (rest : List Lexeme) → EndsClause rest → Separates (clause_statements depth_left most) Ends false rest
unfolding clause_next
clause_separate depth_left most rest ends = record {
  separator = λ s words one. AtSemicolon (statement_words s words);
  more = λ s words one. refl;
  ending = clause_ends rest ends;
  end = clause_next_end rest ends;
}

ends_some : (rest : List Lexeme) → Ends rest → 1 ≤ length rest
ends_some _ (AtSemicolon rest) = omega arith
ends_some _ (AtBrace rest) = omega arith
ends_some _ (AtCase rest) = omega arith
ends_some _ (AtDefault rest) = omega arith

-- the statements of a block or a clause, read again
abbrev BodyOutcome : (most depth_left : ℕ) → Reading (List Statement × Bool) → Statements → List Lexeme → Type 0
BodyOutcome most depth_left read body rest = ReadBack read (statements_in body, false) rest (statements_height body) depth_left (λ listing. statements_longest listing body) most

body_again : (next : List Lexeme → Reading Next) (ending : List Lexeme → List Lexeme) (most depth_left : ℕ) (first : Statement) (others : Statements) (rest : List Lexeme) → IsBody (Then first others) → Separates (statements_to next ending depth_left most) Ends false rest
    → AreAll (IsReadAgain (statements depth_left most) Ends) (first ∷ statements_in others)
    → BodyOutcome most depth_left (listed (statement most depth_left) next Syntax (length (body_words (Then first others) (ending rest))) (body_words (Then first others) (ending rest))) (Then first others) rest
body_again next ending most depth_left first others rest is separates each =
    let words = separated statement_words (following kinds.Semicolon) (statements_in others) (ending rest) in
    let all = statements_are others is.1 in
    let turns = length (statement_words first words) in
    let enough : length (first ∷ statements_in others) ≤ turns =
    omega (arith, separated_longer (statements_in others) (ending rest) all (ends_some (ending rest) separates.ending), statement_longer first words is.0) in
    rw (more_list others (ending rest)) (elim (listed_again (statements_to next ending depth_left most) Ends false rest Syntax separates (statements_in others) turns first (is.0, all) each) [
      | AllFound low few count e ↦ Found (omega (arith, highest_in others)) (λ listing. omega (arith, few listing, longest_in listing others)) e
      | AllHigh high e ↦ High (omega (arith, highest_in others)) e
      | AllMany listing many e ↦ Many listing (omega (arith, many, longest_in listing others)) e
      | Full count e ↦ absurd (omega arith)
    ])

-- ---- what is spelt is read: simple statements

-- what begins as a value does is a simple statement
begun_alone : (most depth_left : ℕ) (ws : List Lexeme) → begins ws ≡ true → statement most (suc depth_left) ws ≡ as_one Alone (simple true true most depth_left ws)
unfolding statement stated begins
begun_alone most depth_left [] begun = refl
begun_alone most depth_left (Literal value ∷ ws) begun = refl
begun_alone most depth_left (Name name ∷ ws) begun = refl
begun_alone most depth_left (Text bytes ∷ ws) begun = refl
begun_alone most depth_left (Mark kinds.LeftBrace ∷ ws) begun = absurd (false≢true begun)
begun_alone most depth_left (Mark kinds.If ∷ ws) begun = absurd (false≢true begun)
begun_alone most depth_left (Mark kinds.For ∷ ws) begun = absurd (false≢true begun)
begun_alone most depth_left (Mark kinds.Select ∷ ws) begun = absurd (false≢true begun)
begun_alone most depth_left (Mark kinds.Go ∷ ws) begun = absurd (false≢true begun)
begun_alone most depth_left (Mark kinds.Var ∷ ws) begun = absurd (false≢true begun)
begun_alone most depth_left (Mark kinds.Return ∷ ws) begun = absurd (false≢true begun)
begun_alone most depth_left (Mark kinds.Break ∷ ws) begun = absurd (false≢true begun)
begun_alone most depth_left (Mark kinds.Continue ∷ ws) begun = absurd (false≢true begun)
begun_alone most depth_left (Mark kinds.Semicolon ∷ ws) begun = absurd (false≢true begun)
begun_alone most depth_left (Mark kinds.RightBrace ∷ ws) begun = absurd (false≢true begun)
begun_alone most depth_left (Mark kinds.Case ∷ ws) begun = absurd (false≢true begun)
begun_alone most depth_left (Mark kinds.Default ∷ ws) begun = absurd (false≢true begun)
begun_alone most depth_left (Mark kind ∷ ws) begun = refl

is_alone : (most depth_left : ℕ) (s : Simple) (rest : List Lexeme) → IsSimple true true s → statement most (suc depth_left) (simple_words s rest) ≡ as_one Alone (simple true true most depth_left (simple_words s rest))
unfolding statement stated
is_alone most depth_left (CallAlone f all) rest is = refl
is_alone most depth_left (Close c) rest is = refl
is_alone most depth_left (Print line ps trailing) rest is = refl
is_alone most depth_left (ReceiveAlone c) rest is = refl
is_alone most depth_left (Send c v) rest is = begun_alone most depth_left (simple_words (Send c v) rest) (begins_again true c (Mark kinds.Arrow ∷ before v rest) is.0.0)
is_alone most depth_left (Increment p) rest is = refl
is_alone most depth_left (Decrement p) rest is = refl
is_alone most depth_left (Assign [] r) rest is = absurd is.0
is_alone most depth_left (Assign (p ∷ ps) r) rest is = refl
is_alone most depth_left (Define [] r) rest is = absurd is.1
is_alone most depth_left (Define (n ∷ ns) r) rest is = refl
is_alone most depth_left (Update p o v) rest is = refl

alone_again : (most depth_left : ℕ) (s : Simple) → IsSimple true true s → IsReadAgain (statements (suc depth_left) most) Ends (Alone s)
alone_again most depth_left s is rest ends =
    rw (is_alone most depth_left s rest is)
    (made_again Alone (simple_again true true most depth_left s rest is (ends_stop rest ends)) (λ high. omega arith) (λ low. omega arith) (λ listing. refl))

empty_again : (most depth_left : ℕ) (rest : List Lexeme) → Ends rest → StatementOutcome most (suc depth_left) (statement most (suc depth_left) rest) Empty rest
unfolding statement stated
empty_again most depth_left _ (AtSemicolon rest) = Found (omega arith) (λ listing. omega arith) refl
empty_again most depth_left _ (AtBrace rest) = Found (omega arith) (λ listing. omega arith) refl
empty_again most depth_left _ (AtCase rest) = Found (omega arith) (λ listing. omega arith) refl
empty_again most depth_left _ (AtDefault rest) = Found (omega arith) (λ listing. omega arith) refl

-- ---- the least heights

positive : (s : Statement) → 1 ≤ statement_height s
positive Empty = omega arith
positive (Alone s) = omega arith
positive (VarTyped ns t r) = omega arith
positive (VarUntyped ns r) = omega arith
positive (Block body) = omega arith
positive (If (Conditional h c body o)) = omega arith
positive (For h body) = omega arith
positive (Select all) = omega arith
positive (Go f all) = omega arith
positive (Return r) = omega arith
positive Break = omega arith
positive Continue = omega arith

body_positive : (body : Statements) → IsBody body → 1 ≤ statements_height body
body_positive NoStatement is = absurd is
body_positive (Then s ss) is = omega (arith, positive s)

comm_positive : (c : Comm) → 2 ≤ comm_height c
comm_positive (CommSend c v) = omega (arith, height_positive c)
comm_positive (CommReceive c) = omega (arith, height_positive c)
comm_positive (CommDefine item ok c) = omega (arith, height_positive c)
comm_positive (CommAssign item ok c) = omega (arith, height_positive c)

-- ---- what is spelt is read: blocks

abbrev pub block_words : Statements → List Lexeme → List Lexeme
block_words body rest = Mark kinds.LeftBrace ∷ body_words body (Mark kinds.RightBrace ∷ rest)

-- statements that are read again with any number of levels left
abbrev ReadAgain : (most : ℕ) → List Statement → Type 0
ReadAgain most all = (depth_left : ℕ) → AreAll (IsReadAgain (statements depth_left most) Ends) all

-- a block that is
abbrev BlockAgain : (most : ℕ) → Statements → Type 0
BlockAgain most body = (depth_left : ℕ) (rest : List Lexeme) → ReadBack (block most depth_left (block_words body rest)) body rest (block_height body) depth_left (λ listing. statements_longest listing body) most

braced_again : (most depth_left : ℕ) (first : Statement) (others : Statements) (rest : List Lexeme) → IsBody (Then first others) → AreAll (IsReadAgain (statements depth_left most) Ends) (first ∷ statements_in others)
    → ReadBack (braced (statement most depth_left) (block_words (Then first others) rest)) (Then first others) rest (block_height (Then first others)) (suc depth_left) (λ listing. statements_longest listing (Then first others)) most
unfolding braced expect
braced_again most depth_left first others rest is each =
    let ending : List Lexeme → List Lexeme = λ ws. Mark kinds.RightBrace ∷ ws in
    let inside = body_words (Then first others) (ending rest) in
    let made = made_again (λ (found : List Statement × Bool). made_statements found.0) (body_again statement_next ending most depth_left first others rest is (statements_separate depth_left most rest) each) (λ high. high) (λ low. low) (λ listing. refl) in
    widened
    (subst (λ (x : Statements). ReadBack (listed (statement most depth_left) statement_next Syntax (length inside) inside >>= λ all. Ok (made_statements all.0.0, all.1)) x rest (statements_height (Then first others)) depth_left (λ listing. statements_longest listing (Then first others)) most) (statements-statements_in (Then first others)) made)
    (λ high. omega arith) (λ low. omega arith) (λ listing. omega arith) (λ few. few)

block_again : (most : ℕ) (body : Statements) → IsBody body → ReadAgain most (statements_in body) → BlockAgain most body
unfolding statement
block_again most NoStatement is each depth_left rest = absurd is
block_again most (Then first others) is each zero rest = High (omega arith) refl
block_again most (Then first others) is each (suc depth_left) rest = braced_again most depth_left first others rest is (each depth_left)

block_statement : (most depth_left : ℕ) (body : Statements) → IsBody body → BlockAgain most body → (rest : List Lexeme) → StatementOutcome most (suc depth_left) (statement most (suc depth_left) (statement_words (Block body) rest)) (Block body) rest
unfolding statement stated
block_statement most depth_left body is again rest =
    needing_again 2 depth_left (λ none. omega (arith, none, body_positive body is)) (made_again Block (again depth_left rest) (λ high. omega arith) (λ low. omega arith) (λ listing. refl))

for_statement : (most depth_left : ℕ) (h : ForHead) (body : Statements) → IsForHead h → IsBody body → BlockAgain most body → (rest : List Lexeme) → StatementOutcome most (suc depth_left) (statement most (suc depth_left) (statement_words (For h body) rest)) (For h body) rest
unfolding statement stated repeated
for_statement most depth_left h body is body_is again rest =
    needing_again 2 depth_left (λ none. omega (arith, none, body_positive body body_is)) (then_again _ (for_header_again most depth_left h (body_words body (Mark kinds.RightBrace ∷ rest)) is) (λ high. omega arith) (λ listing. omega arith) (λ low few.
    widened (made_again (For h) (again depth_left rest) (λ high. high) (λ low'. low') (λ listing. refl)) (λ high. omega arith) (λ low'. omega arith) (λ listing. omega arith) (λ few' listing. omega (arith, few listing, few' listing))))

-- ---- what is spelt is read: if

abbrev BranchOutcome : (most depth_left : ℕ) → Reading Branch → Branch → List Lexeme → Type 0
BranchOutcome most depth_left read b rest = ReadBack read b rest (branch_height b) depth_left (λ listing. branch_longest listing b) most

abbrev BranchAgain : (most : ℕ) → Branch → Type 0
BranchAgain most b = (depth_left : ℕ) (rest : List Lexeme) → Ends rest → BranchOutcome most (suc depth_left) (branched most depth_left (block most depth_left) (branch most depth_left) (branch_words b rest)) b rest

abbrev OtherwiseAgain : (most : ℕ) → Otherwise → Type 0
OtherwiseAgain most o = (depth_left : ℕ) (rest : List Lexeme) → Ends rest
    → ReadBack (otherwise (block most depth_left) (branch most depth_left) (otherwise_words o rest)) o rest (otherwise_height o) depth_left (λ listing. otherwise_longest listing o) most

branch_again : (most depth_left : ℕ) (h : IfHead) (c : Expression) (body : Statements) (o : Otherwise) (rest : List Lexeme) → IsBranch (Conditional h c body o) → BlockAgain most body → OtherwiseAgain most o → Ends rest
    → BranchOutcome most (suc depth_left) (branched most depth_left (block most depth_left) (branch most depth_left) (branch_words (Conditional h c body o) rest)) (Conditional h c body o) rest
unfolding branched
branch_again most depth_left h c body o rest is again again' ends =
    let last = otherwise_words o rest in
    needing_again 2 depth_left (λ none. omega (arith, none, body_positive body is.2)) (then_again _ (if_header_again most depth_left (h, c) (body_words body (Mark kinds.RightBrace ∷ last)) (is.0, is.1)) (λ high. omega arith) (λ listing. omega arith) (λ low few.
    then_again _ (again depth_left last) (λ high. omega arith) (λ listing. omega arith) (λ low' few'.
    then_again _ (again' depth_left rest ends) (λ high. omega arith) (λ listing. omega arith) (λ low'' few''.
    Found (omega arith) (λ listing. omega (arith, few listing, few' listing, few'' listing)) refl))))

no_else : (rest : List Lexeme) → Ends rest → begins_with kinds.Else rest ≡ false
unfolding begins_with
no_else _ (AtSemicolon rest) = refl
no_else _ (AtBrace rest) = refl
no_else _ (AtCase rest) = refl
no_else _ (AtDefault rest) = refl

none_again : (most : ℕ) → OtherwiseAgain most NoElse
unfolding otherwise
none_again most depth_left rest ends = rw (no_else rest ends) (Found (omega arith) (λ listing. omega arith) refl)

else_block_again : (most : ℕ) (body : Statements) → BlockAgain most body → OtherwiseAgain most (ElseBlock body)
unfolding otherwise other expect begins_with
else_block_again most body again depth_left rest ends = made_again ElseBlock (again depth_left rest) (λ high. high) (λ low. low) (λ listing. refl)

branch_depth_left : (most depth_left : ℕ) (b : Branch) (rest : List Lexeme) → BranchAgain most b → Ends rest → BranchOutcome most depth_left (branch most depth_left (branch_words b rest)) b rest
unfolding statement
branch_depth_left most zero (Conditional h c body o) rest again ends = High (omega arith) refl
branch_depth_left most (suc depth_left) b rest again ends = again depth_left rest ends

else_if_again : (most : ℕ) (b : Branch) → BranchAgain most b → OtherwiseAgain most (ElseIf b)
unfolding otherwise other expect begins_with
else_if_again most b again depth_left rest ends = made_again ElseIf (branch_depth_left most depth_left b rest again ends) (λ high. high) (λ low. low) (λ listing. refl)

if_statement : (most depth_left : ℕ) (b : Branch) → BranchAgain most b → (rest : List Lexeme) → Ends rest → StatementOutcome most (suc depth_left) (statement most (suc depth_left) (statement_words (If b) rest)) (If b) rest
unfolding statement stated
if_statement most depth_left b again rest ends = made_again If (again depth_left rest ends) (λ high. high) (λ low. low) (λ listing. refl)

-- ---- what is spelt is read: select

waited_again : (most depth_left : ℕ) (c : Comm) (ws : List Lexeme) → IsComm c → ReadBack (waited most depth_left (comm_words c (Mark kinds.Colon ∷ ws))) c (Mark kinds.Colon ∷ ws) (comm_height c) depth_left (λ listing. comm_longest listing c) most
unfolding waited
waited_again most zero c ws is = High (omega (arith, comm_below_is c)) refl
waited_again most (suc depth_left) c ws is = widened (comm_again most depth_left c ws is) (λ high. omega (arith, comm_below_is c)) (λ low. omega (arith, comm_below_is c)) (λ listing. omega arith) (λ few. few)

-- the clauses of a select, after its brace
abbrev pub clauses_of : (depth_left most : ℕ) → Entries OneClause
clauses_of depth_left most = record {
  one = clause most depth_left;
  next = clauses_next;
  each = clause_words;
  separator = unseparated;
  ending = λ trailing rest. Mark kinds.RightBrace ∷ rest;
  height = clause_height;
  longest = clause_longest;
  depth_left = depth_left;
  most = most;
  IsOne = IsClause;
}

starts_clause : (c : Option Comm) (ws : List Lexeme) → EndsClause (clause_start c ws)
starts_clause None ws = ClauseAtDefault (Mark kinds.Colon ∷ ws)
starts_clause (Some c) ws = ClauseAtCase (comm_words c (Mark kinds.Colon ∷ ws))

goes_on : (c : Option Comm) (ws : List Lexeme) → begins_with kinds.RightBrace (clause_start c ws) ≡ false
unfolding begins_with
goes_on None ws = refl
goes_on (Some c) ws = refl

more_clauses : (c : Option Comm) (ws : List Lexeme) → clauses_next (clause_start c ws) ≡ Ok (More, clause_start c ws)
unfolding clauses_next
more_clauses c ws = rw (goes_on c ws) refl

clauses_separate : (depth_left most : ℕ) (rest : List Lexeme) → Separates (clauses_of depth_left most) EndsClause false rest
unfolding clauses_next begins_with expect
clauses_separate depth_left most rest = record {
  separator = λ c words one. starts_clause c.comm (body_words c.body words);
  more = λ c words one. more_clauses c.comm (body_words c.body words);
  ending = ClauseAtBrace rest;
  end = refl;
}

-- a clause from its colon on
clause_body_again : (most depth_left : ℕ) (waits : Option Comm) (body : Statements) (rest : List Lexeme) → IsBody body → ReadAgain most (statements_in body) → EndsClause rest
    → ReadBack (clause_body (statement most depth_left) waits (Mark kinds.Colon ∷ body_words body rest)) (record { comm = waits; body = body }) rest (statements_height body) depth_left (λ listing. statements_longest listing body) most
unfolding clause_body expect
clause_body_again most depth_left waits NoStatement rest is each ends = absurd is
clause_body_again most depth_left waits (Then first others) rest is each ends =
    let inside = body_words (Then first others) rest in
    let of : Statements → OneClause = λ body. record { comm = waits; body = body } in
    let made = made_again (λ (found : List Statement × Bool). of (made_statements found.0)) (body_again clause_next unseparated most depth_left first others rest is (clause_separate depth_left most rest ends) (each depth_left)) (λ high. high) (λ low. low) (λ listing. refl) in
    subst (λ (x : Statements). ReadBack (listed (statement most depth_left) clause_next Syntax (length inside) inside >>= λ all. Ok (of (made_statements all.0.0), all.1)) (of x) rest (statements_height (Then first others)) depth_left (λ listing. statements_longest listing (Then first others)) most) (statements-statements_in (Then first others)) made

one_clause_again : (most depth_left : ℕ) (waits : Option Comm) (body : Statements) (rest : List Lexeme) → IsAny IsComm waits → IsBody body → ReadAgain most (statements_in body) → EndsClause rest
    → ReadBack (one_clause most depth_left (statement most depth_left) (clause_start waits (body_words body rest))) (record { comm = waits; body = body }) rest (max (if_any comm_height waits) (statements_height body)) depth_left (λ listing. clause_longest listing (record { comm = waits; body = body })) most
unfolding one_clause
one_clause_again most depth_left None body rest is body_is each ends =
    needing_again 1 depth_left (λ none. omega (arith, none, body_positive body body_is))
    (widened (clause_body_again most depth_left None body rest body_is each ends) (λ high. omega arith) (λ low. omega arith) (λ listing. omega arith) (λ few listing. omega (arith, few listing)))
one_clause_again most depth_left (Some c) body rest is body_is each ends =
    needing_again 2 depth_left (λ none. omega (arith, none, comm_positive c)) (then_again _ (waited_again most depth_left c (body_words body rest) is) (λ high. omega arith) (λ listing. omega arith) (λ low few.
    widened (clause_body_again most depth_left (Some c) body rest body_is each ends) (λ high. omega arith) (λ low'. omega arith) (λ listing. omega arith) (λ few' listing. omega (arith, few listing, few' listing))))

clause_again : (most : ℕ) (waits : Option Comm) (body : Statements) → IsAny IsComm waits → IsBody body → ReadAgain most (statements_in body) → (depth_left : ℕ) → IsReadAgain (clauses_of depth_left most) EndsClause (record { comm = waits; body = body })
unfolding statement no_clause
clause_again most None body is body_is each zero rest ends = High (omega arith) refl
clause_again most (Some c) body is body_is each zero rest ends = High (omega arith) refl
clause_again most waits body is body_is each (suc depth_left) rest ends = widened (one_clause_again most depth_left waits body rest is body_is each ends) (λ high. omega arith) (λ low. omega arith) (λ listing. omega arith) (λ few. few)

abbrev ClausesOutcome : (most depth_left : ℕ) → Reading Clauses → Clauses → List Lexeme → Type 0
ClausesOutcome most depth_left read all rest = ReadBack read all rest (clauses_height all) depth_left (λ listing. max (clause_entries listing (clauses_count all)) (clauses_longest listing all)) most

selected_some : (most depth_left : ℕ) (waits : Option Comm) (body : Statements) (others : Clauses) (rest : List Lexeme) → AreClauses (Clause waits body others) → AreAll (IsReadAgain (clauses_of depth_left most) EndsClause) (clauses_in (Clause waits body others))
    → ClausesOutcome most depth_left (selected most (clause most depth_left) (Mark kinds.LeftBrace ∷ clauses_words (Clause waits body others) (Mark kinds.RightBrace ∷ rest))) (Clause waits body others) rest
unfolding selected expect
selected_some most depth_left waits body others rest are each =
    let all = Clause waits body others in
    let one : OneClause = record { comm = waits; body = body } in
    let following' = clauses_words others (Mark kinds.RightBrace ∷ rest) in
    let inside = clause_words one following' in
    let step : Reading (List OneClause × Bool) → Reading Clauses = λ read. read >>= λ found. Ok (clauses found.0.0, found.1) in
    let high = clauses_highest all in
    let count = clauses_length all in
    let made : Ok (clauses (clauses_in all), rest) ≡ gave all rest = ap (λ (x : Clauses). gave x rest) (clauses-clauses_in all) in
    let again = listed_again (clauses_of depth_left most) EndsClause false rest (TooMany SelectClauses) (clauses_separate depth_left most rest) (clauses_in others) most one (clauses_are all are) each in
    let read = ap (λ (ws : List Lexeme). listed (clause most depth_left) clauses_next (TooMany SelectClauses) most (clause_words one ws)) (clauses_list others (Mark kinds.RightBrace ∷ rest)) in
    rw (goes_on waits (body_words body following')) (elim again [
      | AllFound low few length' e ↦ Found (omega arith) (clause_entries_few most all (omega arith) (λ listing. omega (arith, few listing, clauses_longest_in listing all))) (ap step (read ∙ e) ∙ made)
      | AllHigh above e ↦ High (omega arith) (ap step (read ∙ e))
      | AllMany listing many e ↦ Many listing (omega (arith, many, clauses_longest_in listing all)) (ap step (read ∙ e))
      | Full length' e ↦ Many SelectClauses (omega arith) (ap step (read ∙ e))
    ])

selected_again : (most depth_left : ℕ) (all : Clauses) (rest : List Lexeme) → AreClauses all → AreAll (IsReadAgain (clauses_of depth_left most) EndsClause) (clauses_in all)
    → ClausesOutcome most depth_left (selected most (clause most depth_left) (Mark kinds.LeftBrace ∷ clauses_words all (Mark kinds.RightBrace ∷ rest))) all rest
unfolding selected expect begins_with
selected_again most depth_left NoClause rest are each = Found (omega arith) (λ listing. omega (arith, clause_entries-le listing 0)) refl
selected_again most depth_left (Clause waits body others) rest are each = selected_some most depth_left waits body others rest are each

select_statement : (most depth_left : ℕ) (all : Clauses) → AreClauses all → AreAll (IsReadAgain (clauses_of depth_left most) EndsClause) (clauses_in all) → (rest : List Lexeme)
    → StatementOutcome most (suc depth_left) (statement most (suc depth_left) (statement_words (Select all) rest)) (Select all) rest
unfolding statement stated
select_statement most depth_left all are each rest = made_again Select (selected_again most depth_left all rest are each) (λ high. omega arith) (λ low. omega arith) (λ listing. refl)

-- ---- what is spelt is read: statements

no_depth_left : (most : ℕ) (s : Statement) → IsReadAgain (statements 0 most) Ends s
unfolding statement
no_depth_left most s rest ends = High (positive s) refl

var_typed : (most depth_left : ℕ) (ns : List (List ℕ)) (t : TypeExpression) (r : Option (List Expression)) → IsStatement (VarTyped ns t r) → IsReadAgain (statements (suc depth_left) most) Ends (VarTyped ns t r)
unfolding statement stated
var_typed most depth_left ns t r is rest ends = leaf_typed most depth_left ns t r rest is ends

var_untyped : (most depth_left : ℕ) (ns : List (List ℕ)) (r : List Expression) → IsStatement (VarUntyped ns r) → IsReadAgain (statements (suc depth_left) most) Ends (VarUntyped ns r)
unfolding statement stated
var_untyped most depth_left ns r is rest ends = leaf_untyped most depth_left ns r rest is ends

go_again : (most depth_left : ℕ) (f : List ℕ) (all : Arguments) → IsStatement (Go f all) → IsReadAgain (statements (suc depth_left) most) Ends (Go f all)
unfolding statement stated
go_again most depth_left f all is rest ends = leaf_go most depth_left f all rest is

return_again : (most depth_left : ℕ) (r : Returned) → IsStatement (Return r) → IsReadAgain (statements (suc depth_left) most) Ends (Return r)
unfolding statement stated
return_again most depth_left r is rest ends = leaf_return most depth_left r rest is ends

words_again : (most depth_left : ℕ) → IsReadAgain (statements (suc depth_left) most) Ends Break × IsReadAgain (statements (suc depth_left) most) Ends Continue
unfolding statement stated
words_again most depth_left = (λ rest ends. Found (omega arith) (λ listing. omega arith) refl, λ rest ends. Found (omega arith) (λ listing. omega arith) refl)

mutual
  read_again : (most : ℕ) (s : Statement) → IsStatement s → (depth_left : ℕ) → IsReadAgain (statements depth_left most) Ends s
  read_again most s is zero = no_depth_left most s
  read_again most Empty is (suc depth_left) = empty_again most depth_left
  read_again most (Alone s) is (suc depth_left) = alone_again most depth_left s is
  read_again most (VarTyped ns t r) is (suc depth_left) = var_typed most depth_left ns t r is
  read_again most (VarUntyped ns r) is (suc depth_left) = var_untyped most depth_left ns r is
  read_again most (Block body) is (suc depth_left) = λ rest ends. block_statement most depth_left body is (block_again most body is (all_again most body (body_all body is))) rest
  read_again most (If b) is (suc depth_left) = if_statement most depth_left b (branches_again most b is)
  read_again most (For h body) is (suc depth_left) = λ rest ends. for_statement most depth_left h body is.0 is.1 (block_again most body is.1 (all_again most body (body_all body is.1))) rest
  read_again most (Select all) is (suc depth_left) = λ rest ends. select_statement most depth_left all is (clauses_again most all is depth_left) rest
  read_again most (Go f all) is (suc depth_left) = go_again most depth_left f all is
  read_again most (Return r) is (suc depth_left) = return_again most depth_left r is
  read_again most Break is (suc depth_left) = (words_again most depth_left).0
  read_again most Continue is (suc depth_left) = (words_again most depth_left).1

  all_again : (most : ℕ) (body : Statements) → AreStatements body → ReadAgain most (statements_in body)
  all_again most NoStatement are depth_left = tt
  all_again most (Then s ss) are depth_left = (read_again most s are.0 depth_left, all_again most ss are.1 depth_left)

  branches_again : (most : ℕ) (b : Branch) → IsBranch b → BranchAgain most b
  branches_again most (Conditional h c body o) is depth_left rest =
      branch_again most depth_left h c body o rest is (block_again most body is.2 (all_again most body (body_all body is.2))) (otherwise_again most o is.3)

  otherwise_again : (most : ℕ) (o : Otherwise) → IsOtherwise o → OtherwiseAgain most o
  otherwise_again most NoElse is = none_again most
  otherwise_again most (ElseBlock body) is = else_block_again most body (block_again most body is (all_again most body (body_all body is)))
  otherwise_again most (ElseIf b) is = else_if_again most b (branches_again most b is)

  clauses_again : (most : ℕ) (all : Clauses) → AreClauses all → (depth_left : ℕ) → AreAll (IsReadAgain (clauses_of depth_left most) EndsClause) (clauses_in all)
  clauses_again most NoClause are depth_left = tt
  clauses_again most (Clause waits body others) are depth_left = (clause_again most waits body are.0 are.1 (all_again most body (body_all body are.1)) depth_left, clauses_again most others are.2 depth_left)

pub statement_again : (depth_left most : ℕ) (s : Statement) → IsStatement s → IsReadAgain (statements depth_left most) Ends s
statement_again depth_left most s is = read_again most s is depth_left
