-- What is read of a statement, part by part: where a part fails, and what all parts make.
use Rattle.std.proofs.Common.{◌≡◌, ℕ, ◌-◌, ◌≤◌, Bool, true, false, cond, List, ◌∷◌, Option, Some, None, Result, Ok, Err, zero, suc, nat_le, length, refl, ap, ◌∙◌, arith}
use Rattle.parser_base.specs.declared.fault.ParseFault.{ParseFault}
use Rattle.scanner.specs.declared.kind.TokenKind.{TokenKind}
use Rattle.scanner.specs.declared.kind.TokenKind.TheVariants as kinds
use Rattle.syntax.specs.Tree.{Expression, Comm, IfHead, ForHead, Statement, Block, If, For, Statements, statements, Branch, Conditional, Otherwise, ElseBlock, ElseIf}
use Rattle.syntax.specs.View.{OneClause}
use Rattle.std.proofs.lemmas.Bool.{leb-false}
use Rattle.parser_base.specs.Lexemes.{Lexeme, Mark}
use Rattle.parser_base.specs.Reading.{Refusal, TooDeep, Syntax, Fails, Reading, expect, listed, needing}
use Rattle.parser_base.proofs.Results.{fails_on}
use Rattle.parser_simple.specs.Reading.{begins_with}
use Rattle.parser_header.specs.Reading.{if_header, for_header}
use Rattle.parser_statement.specs.Reading.{statement, block, branch, other, otherwise, branched, repeated, waited, clause_body, one_clause, clause_next, marked, leaf}

enough : {A : Type 0} (least depth_left : ℕ) (read : Result A Refusal) (b : Bool) → nat_le least depth_left ≡ b → least ≤ depth_left → cond b read (Err TooDeep) ≡ read
enough least depth_left read true e h = refl
enough least depth_left read false e h = absurd (omega (arith, leb-false least depth_left e))

-- if there are as many levels as are needed
has_depth_left : {A : Type 0} (least depth_left : ℕ) (read : Result A Refusal) → least ≤ depth_left → needing least depth_left read ≡ read
has_depth_left least depth_left read h = enough least depth_left read (nat_le least depth_left) refl h

-- ---- an `if`

pub if_head_fails : (fault : ParseFault) (most depth_left : ℕ) (inside : List Lexeme → Reading Statements) (below : List Lexeme → Reading Branch) (ws : List Lexeme) → 2 ≤ depth_left → Fails fault (if_header most depth_left ws)
    → Fails fault (branched most depth_left inside below ws)
unfolding branched
if_head_fails fault most depth_left inside below ws h fails =
    fails_on fault (if_header most depth_left ws) (branched most depth_left inside below ws) fails (λ r e. has_depth_left 2 depth_left _ h ∙ rw e refl)

pub if_body_fails : (fault : ParseFault) (most depth_left : ℕ) (inside : List Lexeme → Reading Statements) (below : List Lexeme → Reading Branch) (ws : List Lexeme) (head : (IfHead × Expression) × List Lexeme) → 2 ≤ depth_left → if_header most depth_left ws ≡ Ok head
    → Fails fault (inside head.1) → Fails fault (branched most depth_left inside below ws)
unfolding branched
if_body_fails fault most depth_left inside below ws head h read fails =
    fails_on fault (inside head.1) (branched most depth_left inside below ws) fails (λ r e. has_depth_left 2 depth_left _ h ∙ rw (read, e) refl)

pub if_else_fails : (fault : ParseFault) (most depth_left : ℕ) (inside : List Lexeme → Reading Statements) (below : List Lexeme → Reading Branch) (ws : List Lexeme) (head : (IfHead × Expression) × List Lexeme) (body : Statements × List Lexeme)
    → 2 ≤ depth_left → if_header most depth_left ws ≡ Ok head → inside head.1 ≡ Ok body → Fails fault (otherwise inside below body.1) → Fails fault (branched most depth_left inside below ws)
unfolding branched
if_else_fails fault most depth_left inside below ws head body h read read' fails =
    fails_on fault (otherwise inside below body.1) (branched most depth_left inside below ws) fails (λ r e. has_depth_left 2 depth_left _ h ∙ rw (read, read', e) refl)

pub if_done : (most depth_left : ℕ) (inside : List Lexeme → Reading Statements) (below : List Lexeme → Reading Branch) (ws : List Lexeme) (head : (IfHead × Expression) × List Lexeme) (body : Statements × List Lexeme) (last : Otherwise × List Lexeme)
    → 2 ≤ depth_left → if_header most depth_left ws ≡ Ok head → inside head.1 ≡ Ok body → otherwise inside below body.1 ≡ Ok last
    → branched most depth_left inside below ws ≡ Ok (Conditional head.0.0 head.0.1 body.0 last.0, last.1)
unfolding branched
if_done most depth_left inside below ws head body last h read read' read'' = has_depth_left 2 depth_left _ h ∙ rw (read, read', read'') refl

-- ---- what follows `else`

branch_begins : (most depth_left : ℕ) (ws : List Lexeme) → 1 ≤ depth_left → branch most depth_left ws ≡ branched most (depth_left - 1) (block most (depth_left - 1)) (branch most (depth_left - 1)) ws
unfolding statement
branch_begins most zero ws h = absurd (omega arith)
branch_begins most (suc depth_left) ws h =
    let e : depth_left ≡ suc depth_left - 1 = omega arith in
    ap (λ (r : ℕ). branched most r (block most r) (branch most r) ws) e

pub else_if_fails : (fault : ParseFault) (most depth_left : ℕ) (ws after : List Lexeme) → 1 ≤ depth_left → begins_with kinds.If ws ≡ true → expect kinds.If ws ≡ Ok after
    → Fails fault (branched most (depth_left - 1) (block most (depth_left - 1)) (branch most (depth_left - 1)) after) → Fails fault (other (block most depth_left) (branch most depth_left) ws)
unfolding other
else_if_fails fault most depth_left ws after h begins following fails =
    fails_on fault (branched most (depth_left - 1) (block most (depth_left - 1)) (branch most (depth_left - 1)) after) (other (block most depth_left) (branch most depth_left) ws) fails (λ r e. rw (begins, following, branch_begins most depth_left after h, e) refl)

pub else_if_done : (most depth_left : ℕ) (ws after : List Lexeme) (found : Branch × List Lexeme) → 1 ≤ depth_left → begins_with kinds.If ws ≡ true → expect kinds.If ws ≡ Ok after
    → branched most (depth_left - 1) (block most (depth_left - 1)) (branch most (depth_left - 1)) after ≡ Ok found → other (block most depth_left) (branch most depth_left) ws ≡ Ok (ElseIf found.0, found.1)
unfolding other
else_if_done most depth_left ws after found h begins following read = rw (begins, following, branch_begins most depth_left after h, read) refl

pub else_block_done : (inside : List Lexeme → Reading Statements) (below : List Lexeme → Reading Branch) (ws : List Lexeme) (found : Statements × List Lexeme) → begins_with kinds.If ws ≡ false → inside ws ≡ Ok found → other inside below ws ≡ Ok (ElseBlock found.0, found.1)
unfolding other
else_block_done inside below ws found begins read = rw (begins, read) refl

-- ---- a `for`

pub for_head_fails : (fault : ParseFault) (most depth_left : ℕ) (inside : List Lexeme → Reading Statements) (ws : List Lexeme) → 2 ≤ depth_left → Fails fault (for_header most depth_left ws) → Fails fault (repeated most depth_left inside ws)
unfolding repeated
for_head_fails fault most depth_left inside ws h fails = fails_on fault (for_header most depth_left ws) (repeated most depth_left inside ws) fails (λ r e. has_depth_left 2 depth_left _ h ∙ rw e refl)

pub for_body_fails : (fault : ParseFault) (most depth_left : ℕ) (inside : List Lexeme → Reading Statements) (ws : List Lexeme) (head : ForHead × List Lexeme) → 2 ≤ depth_left → for_header most depth_left ws ≡ Ok head → Fails fault (inside head.1) → Fails fault (repeated most depth_left inside ws)
unfolding repeated
for_body_fails fault most depth_left inside ws head h read fails = fails_on fault (inside head.1) (repeated most depth_left inside ws) fails (λ r e. has_depth_left 2 depth_left _ h ∙ rw (read, e) refl)

pub for_done : (most depth_left : ℕ) (inside : List Lexeme → Reading Statements) (ws : List Lexeme) (head : ForHead × List Lexeme) (body : Statements × List Lexeme) → 2 ≤ depth_left → for_header most depth_left ws ≡ Ok head → inside head.1 ≡ Ok body
    → repeated most depth_left inside ws ≡ Ok (For head.0 body.0, body.1)
unfolding repeated
for_done most depth_left inside ws head body h read read' = has_depth_left 2 depth_left _ h ∙ rw (read, read') refl

-- ---- a clause

pub clause_body_fails : (fault : ParseFault) (one : List Lexeme → Reading Statement) (waits : Option Comm) (ws inside : List Lexeme) → expect kinds.Colon ws ≡ Ok inside → Fails fault (listed one clause_next Syntax (length inside) inside)
    → Fails fault (clause_body one waits ws)
unfolding clause_body
clause_body_fails fault one waits ws inside following fails =
    fails_on fault (listed one clause_next Syntax (length inside) inside) (clause_body one waits ws) fails (λ r e. rw (following, e) refl)

pub clause_body_done : (one : List Lexeme → Reading Statement) (waits : Option Comm) (ws inside : List Lexeme) (all : (List Statement × Bool) × List Lexeme) → expect kinds.Colon ws ≡ Ok inside → listed one clause_next Syntax (length inside) inside ≡ Ok all
    → clause_body one waits ws ≡ Ok (record { comm = waits; body = statements all.0.0 }, all.1)
unfolding clause_body
clause_body_done one waits ws inside all following read = rw (following, read) refl

pub waits_fails : (fault : ParseFault) (most depth_left : ℕ) (one : List Lexeme → Reading Statement) (ws rest : List Lexeme) → 2 ≤ depth_left → ws ≡ Mark kinds.Case ∷ rest → Fails fault (waited most depth_left rest) → Fails fault (one_clause most depth_left one ws)
unfolding one_clause
waits_fails fault most depth_left one ws rest h is fails =
    fails_on fault (waited most depth_left rest) (one_clause most depth_left one ws) fails (λ r e. rw is (has_depth_left 2 depth_left _ h ∙ rw e refl))

pub case_is : (most depth_left : ℕ) (one : List Lexeme → Reading Statement) (ws rest : List Lexeme) (waits : Comm × List Lexeme) → 2 ≤ depth_left → ws ≡ Mark kinds.Case ∷ rest → waited most depth_left rest ≡ Ok waits
    → one_clause most depth_left one ws ≡ clause_body one (Some waits.0) waits.1
unfolding one_clause
case_is most depth_left one ws rest waits h is read = rw is (has_depth_left 2 depth_left _ h ∙ rw read refl)

pub default_is : (most depth_left : ℕ) (one : List Lexeme → Reading Statement) (ws rest : List Lexeme) → 1 ≤ depth_left → ws ≡ Mark kinds.Default ∷ rest → one_clause most depth_left one ws ≡ clause_body one None rest
unfolding one_clause
default_is most depth_left one ws rest h is = rw is (has_depth_left 1 depth_left _ h)

-- ---- a statement that begins with a mark

pub marked_leaf : (most depth_left : ℕ) (inside : List Lexeme → Reading Statements) (below : List Lexeme → Reading Branch) (one : List Lexeme → Reading OneClause) (kind : TokenKind) (rest : List Lexeme)
    → (kind ≡ kinds.LeftBrace → ⊥) → (kind ≡ kinds.If → ⊥) → (kind ≡ kinds.For → ⊥) → (kind ≡ kinds.Select → ⊥) → marked most depth_left inside below one kind rest ≡ leaf most depth_left kind rest
marked_leaf most depth_left inside below one kinds.LeftBrace rest brace if' for select = absurd (brace refl)
marked_leaf most depth_left inside below one kinds.If rest brace if' for select = absurd (if' refl)
marked_leaf most depth_left inside below one kinds.For rest brace if' for select = absurd (for refl)
marked_leaf most depth_left inside below one kinds.Select rest brace if' for select = absurd (select refl)
marked_leaf most depth_left inside below one kind rest brace if' for select = refl

pub block_fails : (fault : ParseFault) (most depth_left : ℕ) (inside : List Lexeme → Reading Statements) (below : List Lexeme → Reading Branch) (one : List Lexeme → Reading OneClause) (kind : TokenKind) (rest : List Lexeme) → 2 ≤ depth_left → kind ≡ kinds.LeftBrace
    → Fails fault (inside (Mark kind ∷ rest)) → Fails fault (marked most depth_left inside below one kind rest)
block_fails fault most depth_left inside below one kind rest h is fails =
    fails_on fault (inside (Mark kind ∷ rest)) (marked most depth_left inside below one kind rest) fails (λ r e. rw is (has_depth_left 2 depth_left _ h ∙ rw (rw is at e) refl))

pub block_done : (most depth_left : ℕ) (inside : List Lexeme → Reading Statements) (below : List Lexeme → Reading Branch) (one : List Lexeme → Reading OneClause) (kind : TokenKind) (rest : List Lexeme) (found : Statements × List Lexeme) → 2 ≤ depth_left → kind ≡ kinds.LeftBrace
    → inside (Mark kind ∷ rest) ≡ Ok found → marked most depth_left inside below one kind rest ≡ Ok (Block found.0, found.1)
block_done most depth_left inside below one kind rest found h is read = rw is (has_depth_left 2 depth_left _ h ∙ rw (rw is at read) refl)

pub branch_fails : (fault : ParseFault) (most depth_left : ℕ) (inside : List Lexeme → Reading Statements) (below : List Lexeme → Reading Branch) (one : List Lexeme → Reading OneClause) (kind : TokenKind) (rest : List Lexeme) → kind ≡ kinds.If
    → Fails fault (branched most depth_left inside below rest) → Fails fault (marked most depth_left inside below one kind rest)
branch_fails fault most depth_left inside below one kind rest is fails =
    fails_on fault (branched most depth_left inside below rest) (marked most depth_left inside below one kind rest) fails (λ r e. rw (is, e) refl)

pub branch_done : (most depth_left : ℕ) (inside : List Lexeme → Reading Statements) (below : List Lexeme → Reading Branch) (one : List Lexeme → Reading OneClause) (kind : TokenKind) (rest : List Lexeme) (found : Branch × List Lexeme) → kind ≡ kinds.If
    → branched most depth_left inside below rest ≡ Ok found → marked most depth_left inside below one kind rest ≡ Ok (If found.0, found.1)
branch_done most depth_left inside below one kind rest found is read = rw (is, read) refl
