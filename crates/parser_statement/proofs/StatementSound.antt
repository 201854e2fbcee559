-- Statements: what is read is spelt so.
use Rattle.std.proofs.Common.{◌≡◌, ℕ, zero, suc, ◌≤◌, Bool, true, false, cond, Option, Some, None, max, List, [], ◌∷◌, length, Ok, Err, inl, inr, refl, sym, ap, ◌∙◌, subst, arith}
use Rattle.scanner.specs.declared.kind.TokenKind.{TokenKind}
use Rattle.scanner.specs.declared.kind.TokenKind.TheVariants as kinds
use Rattle.syntax.specs.Tree.{Expression, IfHead, ForHead, Comm, Statement, Block, If, For, Select, Statements, statements_in, statements as made_statements, Branch, Conditional, Otherwise, NoElse, ElseBlock, ElseIf, Clauses}
use Rattle.syntax.specs.Measures.{Listing, SelectClauses, clauses as clause_entries, highest, comm_height, comm_longest, statement_height, statements_height, branch_height, otherwise_height, block_height, clauses_height, statement_longest, statements_longest, branch_longest, otherwise_longest, clauses_longest, clauses_count}
use Rattle.syntax.specs.View.{OneClause, clauses}
use Rattle.syntax.proofs.Lists.{statements_in-statements}
use Rattle.parser_base.specs.declared.list.Next.{Next}
use Rattle.parser_base.specs.declared.list.Next.TheVariants.{More, End}
use Rattle.parser_base.specs.Lexemes.{Lexeme, Literal, Name, Text, Mark}
use Rattle.parser_base.specs.Spelling.{following, separated, joined, AreAll, AreSome}
use Rattle.parser_base.specs.Reading.{Syntax, TooMany, Reading, ◌>>=◌, expect, listed, as_one}
use Rattle.parser_base.proofs.Marks.{bind_ok, ok_is, expect_is}
use Rattle.parser_base.proofs.ListLaws.{IsEntry, ReadsSoundly, AreEntries, listed_sound, ends_with, goes_on_with, all_of}
use Rattle.parser_base.proofs.Steps.{gave, Sound, made_is, either, needing_ok}
use Rattle.parser_simple.specs.Reading.{begins_with}
use Rattle.parser_header.specs.Spelling.{comm_words, IsComm, for_head_words}
use Rattle.parser_header.specs.Reading.{if_header, for_header}
use Rattle.parser_header.proofs.HeaderLaws.{if_header_words, if_header_sound, for_header_sound}
use Rattle.parser_header.proofs.CommLaws.{comm_below_is, comm_sound}
use Rattle.parser_statement.specs.Spelling.{statement_words, body_words, branch_words, otherwise_words, clauses_words, IsStatement, IsBody, IsBranch, IsOtherwise, AreClauses}
use Rattle.parser_statement.specs.Reading.{ends_statement, statement_next, clause_next, braced, other, otherwise, branched, repeated, waited, clause_body, one_clause, no_clause, clauses_next, selected, marked, stated, statement, block, branch, clause}
use Rattle.parser_statement.proofs.StatementLists.{body_list, are_body, highest_in, longest_in, clauses_in, clauses_in-clauses, clause_words, IsClause, clause_height, clause_longest, unseparated, clauses_list, are_clauses, clauses_highest, clauses_longest_in, clauses_length, clause_entries-le, clause_entries_few}
use Rattle.parser_statement.proofs.LeafLaws.{StatementSound, alone_sound, leaf_sound}
use Rattle.parser_statement.proofs.StatementAgain.{statements_to, statements, clause_statements, block_words, clauses_of}

-- ---- what is read is spelt so: lists of statements

-- what a reader of parts finds within `depth_left` levels is spelt so
abbrev BlockSoundly : (most depth_left : ℕ) → Type 0
BlockSoundly most depth_left = (ws : List Lexeme) (body : Statements) (rest : List Lexeme) → block most depth_left ws ≡ gave body rest → Sound block_words IsBody block_height depth_left statements_longest most ws body rest

abbrev BranchSound : (most depth_left : ℕ) → List Lexeme → Branch → List Lexeme → Type 0
BranchSound most depth_left = Sound branch_words IsBranch branch_height depth_left branch_longest most

abbrev BranchSoundly : (most depth_left : ℕ) → Type 0
BranchSoundly most depth_left = (ws : List Lexeme) (b : Branch) (rest : List Lexeme) → branch most depth_left ws ≡ gave b rest → BranchSound most depth_left ws b rest

abbrev ClauseSound : (most depth_left : ℕ) → List Lexeme → OneClause → List Lexeme → Type 0
ClauseSound most depth_left = Sound clause_words IsClause clause_height depth_left clause_longest most

abbrev ClauseSoundly : (most depth_left : ℕ) → Type 0
ClauseSoundly most depth_left = (ws : List Lexeme) (c : OneClause) (rest : List Lexeme) → clause most depth_left ws ≡ gave c rest → ClauseSound most depth_left ws c rest

abbrev StatementSoundly : (most depth_left : ℕ) → Type 0
StatementSoundly most depth_left = (ws : List Lexeme) (s : Statement) (rest : List Lexeme) → statement most depth_left ws ≡ gave s rest → StatementSound most depth_left ws s rest

abbrev next_of : Next × List Lexeme → Next
next_of found = found.0

abbrev rest_of : Next × List Lexeme → List Lexeme
rest_of found = found.1

abbrev then_next : Next × List Lexeme → Reading Next
then_next found = Ok found

not_end : (ws rest : List Lexeme) (trailing : Bool) → then_next (goes_on_with ws) ≡ then_next (ends_with trailing rest) → ⊥
not_end ws rest trailing e =
    let same : More ≡ End trailing = ap next_of (ok_is (goes_on_with ws) (ends_with trailing rest) e) in
    cc

not_more : (ws rest : List Lexeme) (trailing : Bool) → then_next (ends_with trailing ws) ≡ then_next (goes_on_with rest) → ⊥
not_more ws rest trailing e =
    let same : End trailing ≡ More = ap next_of (ok_is (ends_with trailing ws) (goes_on_with rest) e) in
    cc

statement_more_sound : (ws rest : List Lexeme) → statement_next ws ≡ Ok (goes_on_with rest) → ws ≡ Mark kinds.Semicolon ∷ rest
unfolding statement_next
statement_more_sound (Mark kinds.Semicolon ∷ ws) rest e = ap (λ (x : Next × List Lexeme). Mark kinds.Semicolon ∷ x.1) (ok_is (goes_on_with ws) (goes_on_with rest) e)
statement_more_sound (Mark kinds.RightBrace ∷ ws) rest e = absurd (not_more ws rest false e)
statement_more_sound ws rest e = absurd cc

statement_end_sound : (ws : List Lexeme) (trailing : Bool) (rest : List Lexeme) → statement_next ws ≡ Ok (ends_with trailing rest) → ws ≡ Mark kinds.RightBrace ∷ rest
unfolding statement_next
statement_end_sound (Mark kinds.Semicolon ∷ ws) trailing rest e = absurd (not_end ws rest trailing e)
statement_end_sound (Mark kinds.RightBrace ∷ ws) trailing rest e = ap (λ (x : Next × List Lexeme). Mark kinds.RightBrace ∷ x.1) (ok_is (ends_with false ws) (ends_with trailing rest) e)
statement_end_sound ws trailing rest e = absurd cc

ended_more : (ws rest : List Lexeme) (b : Bool) → cond b (Ok (ends_with false ws)) (Err Syntax) ≡ Ok (goes_on_with rest) → ⊥
ended_more ws rest true e = not_more ws rest false e
ended_more ws rest false e = cc

ended_end : (ws : List Lexeme) (trailing : Bool) (rest : List Lexeme) (b : Bool) → cond b (Ok (ends_with false ws)) (Err Syntax) ≡ Ok (ends_with trailing rest) → ws ≡ rest
ended_end ws trailing rest true e = ap rest_of (ok_is (ends_with false ws) (ends_with trailing rest) e)
ended_end ws trailing rest false e = absurd cc

clause_more_sound : (ws rest : List Lexeme) → clause_next ws ≡ Ok (goes_on_with rest) → ws ≡ Mark kinds.Semicolon ∷ rest
unfolding clause_next
clause_more_sound (Mark kinds.Semicolon ∷ ws) rest e = ap (λ (x : Next × List Lexeme). Mark kinds.Semicolon ∷ x.1) (ok_is (goes_on_with ws) (goes_on_with rest) e)
clause_more_sound ws rest e = absurd (ended_more ws rest (ends_statement ws) e)

clause_end_sound : (ws : List Lexeme) (trailing : Bool) (rest : List Lexeme) → clause_next ws ≡ Ok (ends_with trailing rest) → ws ≡ rest
unfolding clause_next
clause_end_sound (Mark kinds.Semicolon ∷ ws) trailing rest e = absurd (not_end ws rest trailing e)
clause_end_sound ws trailing rest e = ended_end ws trailing rest (ends_statement ws) e

entry_of : (next : List Lexeme → Reading Next) (ending : List Lexeme → List Lexeme) (most depth_left : ℕ) → StatementSoundly most depth_left → (ws : List Lexeme) (s : Statement) (rest : List Lexeme) → statement most depth_left ws ≡ Ok (s, rest) → IsEntry (statements_to next ending depth_left most) ws s rest
entry_of next ending most depth_left sound ws s rest e = let p = sound ws s rest e in record { parts = p.parts; is = p.is; low = p.low; few = p.few }

-- a block or a clause's statements, from what was read of them
body_sound : (next : List Lexeme → Reading Next) (ending : List Lexeme → List Lexeme) (most depth_left turns : ℕ) (ws : List Lexeme) (found : (List Statement × Bool) × List Lexeme) → AreEntries (statements_to next ending depth_left most) turns ws found
    → Sound (λ body rest. body_words body (ending rest)) IsBody statements_height depth_left statements_longest most ws (made_statements found.0.0) found.1
body_sound next ending most depth_left turns ws found are =
    let body = made_statements found.0.0 in
    let same : statements_in body ≡ found.0.0 = statements_in-statements found.0.0 in
    record {
      parts = are.parts ∙ sym (body_list body (ending found.1) ∙ ap (λ (all : List Statement). joined statement_words (following kinds.Semicolon) all (ending found.1)) same);
      is = are_body body (subst (AreSome IsStatement) (sym same) are.are);
      low = omega (arith, are.low, sym (highest_in body), ap (highest statement_height) same);
      few = λ listing. omega (arith, are.few listing, sym (longest_in listing body), ap (highest (statement_longest listing)) same);
    }

braced_sound : (most depth_left : ℕ) → StatementSoundly most depth_left → (ws : List Lexeme) (body : Statements) (rest : List Lexeme) → braced (statement most depth_left) ws ≡ gave body rest → Sound block_words IsBody block_height (suc depth_left) statements_longest most ws body rest
unfolding braced
braced_sound most depth_left sound ws body rest e =
    let ending : List Lexeme → List Lexeme = λ ws. Mark kinds.RightBrace ∷ ws in
    let read : List Lexeme → Reading (List Statement × Bool) = λ inside. listed (statement most depth_left) statement_next Syntax (length inside) inside in
    let a = bind_ok (expect kinds.LeftBrace ws) (λ inside. read inside >>= λ all. gave (made_statements all.0.0) all.1) (body, rest) e in
    let b = bind_ok (read a.0) (λ all. gave (made_statements all.0.0) all.1) (body, rest) a.2 in
    let l = listed_sound (statements depth_left most) Syntax (record { one = entry_of statement_next ending most depth_left sound; more = statement_more_sound; end = statement_end_sound }) (length a.0) a.0 b.0 b.1 in
    let p = body_sound statement_next ending most depth_left (length a.0) a.0 b.0 l in
    subst (λ (x : Statements × List Lexeme). Sound block_words IsBody block_height (suc depth_left) statements_longest most ws x.0 x.1) (ok_is (made_statements b.0.0.0, b.0.1) (body, rest) b.2) (record {
      parts = expect_is kinds.LeftBrace ws a.0 a.1 ∙ ap (λ (x : List Lexeme). Mark kinds.LeftBrace ∷ x) p.parts;
      is = p.is;
      low = omega (arith, p.low);
      few = p.few;
    })

-- ---- what is read is spelt so: if and for

abbrev OtherwiseSound : (most depth_left : ℕ) → List Lexeme → Otherwise → List Lexeme → Type 0
OtherwiseSound most depth_left = Sound otherwise_words IsOtherwise otherwise_height depth_left otherwise_longest most

other_sound : (most depth_left : ℕ) → BlockSoundly most depth_left → BranchSoundly most depth_left → (ws : List Lexeme) (o : Otherwise) (rest : List Lexeme) → other (block most depth_left) (branch most depth_left) ws ≡ gave o rest → OtherwiseSound most depth_left (Mark kinds.Else ∷ ws) o rest
unfolding other
other_sound most depth_left blocks branches ws o rest e =
    elim (either (begins_with kinds.If ws) (expect kinds.If ws >>= λ after. as_one ElseIf (branch most depth_left after)) (as_one ElseBlock (block most depth_left ws)) (o, rest) e) [
      | inl ifs ↦
          let a = bind_ok (expect kinds.If ws) (λ after. as_one ElseIf (branch most depth_left after)) (o, rest) ifs.1 in
          let b = made_is ElseIf (branch most depth_left a.0) o rest a.2 in
          let p = branches a.0 b.0 rest b.1 in
          subst (λ (x : Otherwise). OtherwiseSound most depth_left (Mark kinds.Else ∷ ws) x rest) b.2 (record {
            parts = ap (λ (x : List Lexeme). Mark kinds.Else ∷ x) (expect_is kinds.If ws a.0 a.1 ∙ ap (λ (x : List Lexeme). Mark kinds.If ∷ x) p.parts);
            is = p.is;
            low = p.low;
            few = p.few;
          })
      | inr braces ↦
          let b = made_is ElseBlock (block most depth_left ws) o rest braces.1 in
          let p = blocks ws b.0 rest b.1 in
          subst (λ (x : Otherwise). OtherwiseSound most depth_left (Mark kinds.Else ∷ ws) x rest) b.2 (record { parts = ap (λ (x : List Lexeme). Mark kinds.Else ∷ x) p.parts; is = p.is; low = p.low; few = p.few })
    ]

otherwise_sound : (most depth_left : ℕ) → BlockSoundly most depth_left → BranchSoundly most depth_left → (ws : List Lexeme) (o : Otherwise) (rest : List Lexeme) → otherwise (block most depth_left) (branch most depth_left) ws ≡ gave o rest → OtherwiseSound most depth_left ws o rest
unfolding otherwise
otherwise_sound most depth_left blocks branches ws o rest e =
    elim (either (begins_with kinds.Else ws) (expect kinds.Else ws >>= λ after. other (block most depth_left) (branch most depth_left) after) (gave NoElse ws) (o, rest) e) [
      | inl some ↦
          let a = bind_ok (expect kinds.Else ws) (other (block most depth_left) (branch most depth_left)) (o, rest) some.1 in
          subst (λ (x : List Lexeme). OtherwiseSound most depth_left x o rest) (sym (expect_is kinds.Else ws a.0 a.1)) (other_sound most depth_left blocks branches a.0 o rest a.2)
      | inr none ↦ subst (λ (x : Otherwise × List Lexeme). OtherwiseSound most depth_left ws x.0 x.1) (ok_is (NoElse, ws) (o, rest) none.1) (record { parts = refl; is = tt; low = omega arith; few = λ listing. omega arith })
    ]

branched_sound : (most depth_left : ℕ) → BlockSoundly most depth_left → BranchSoundly most depth_left → (ws : List Lexeme) (b : Branch) (rest : List Lexeme) → branched most depth_left (block most depth_left) (branch most depth_left) ws ≡ gave b rest → BranchSound most (suc depth_left) ws b rest
unfolding branched
branched_sound most depth_left blocks branches ws b rest e =
    let last : List Lexeme → Reading Otherwise = otherwise (block most depth_left) (branch most depth_left) in
    let following' : (IfHead × Expression) × List Lexeme → Reading Branch = λ header. block most depth_left header.1 >>= λ body. last body.1 >>= λ o. gave (Conditional header.0.0 header.0.1 body.0 o.0) o.1 in
    let h = bind_ok (if_header most depth_left ws) following' (b, rest) (needing_ok 2 depth_left (if_header most depth_left ws >>= following') (b, rest) e) in
    let c = bind_ok (block most depth_left h.0.1) (λ body. last body.1 >>= λ o. gave (Conditional h.0.0.0 h.0.0.1 body.0 o.0) o.1) (b, rest) h.2 in
    let d = made_is (Conditional h.0.0.0 h.0.0.1 c.0.0) (last c.0.1) b rest c.2 in
    let p = if_header_sound most depth_left ws h.0.0 h.0.1 h.1 in
    let q = blocks h.0.1 c.0.0 c.0.1 c.1 in
    let r = otherwise_sound most depth_left blocks branches c.0.1 d.0 rest d.1 in
    subst (λ (x : Branch). BranchSound most (suc depth_left) ws x rest) d.2 (record {
      parts = p.parts ∙ ap (if_header_words h.0.0) (q.parts ∙ ap (block_words c.0.0) r.parts);
      is = (p.is.0, p.is.1, q.is, r.is);
      low = omega (arith, p.low, q.low, r.low);
      few = λ listing. omega (arith, p.few listing, q.few listing, r.few listing);
    })

if_sound : (most depth_left : ℕ) → BlockSoundly most depth_left → BranchSoundly most depth_left → (ws : List Lexeme) (s : Statement) (rest : List Lexeme) → as_one If (branched most depth_left (block most depth_left) (branch most depth_left) ws) ≡ gave s rest → StatementSound most (suc depth_left) (Mark kinds.If ∷ ws) s rest
if_sound most depth_left blocks branches ws s rest e =
    let a = made_is If (branched most depth_left (block most depth_left) (branch most depth_left) ws) s rest e in
    let p = branched_sound most depth_left blocks branches ws a.0 rest a.1 in
    subst (λ (x : Statement). StatementSound most (suc depth_left) (Mark kinds.If ∷ ws) x rest) a.2 (record { parts = ap (λ (x : List Lexeme). Mark kinds.If ∷ x) p.parts; is = p.is; low = p.low; few = p.few })

for_sound : (most depth_left : ℕ) → BlockSoundly most depth_left → (ws : List Lexeme) (s : Statement) (rest : List Lexeme) → repeated most depth_left (block most depth_left) ws ≡ gave s rest → StatementSound most (suc depth_left) (Mark kinds.For ∷ ws) s rest
unfolding repeated
for_sound most depth_left blocks ws s rest e =
    let following' : ForHead × List Lexeme → Reading Statement = λ header. as_one (For header.0) (block most depth_left header.1) in
    let a = bind_ok (for_header most depth_left ws) following' (s, rest) (needing_ok 2 depth_left (for_header most depth_left ws >>= following') (s, rest) e) in
    let b = made_is (For a.0.0) (block most depth_left a.0.1) s rest a.2 in
    let p = for_header_sound most depth_left ws a.0.0 a.0.1 a.1 in
    let q = blocks a.0.1 b.0 rest b.1 in
    subst (λ (x : Statement). StatementSound most (suc depth_left) (Mark kinds.For ∷ ws) x rest) b.2 (record {
      parts = ap (λ (x : List Lexeme). Mark kinds.For ∷ x) (p.parts ∙ ap (for_head_words a.0.0) q.parts);
      is = (p.is, q.is);
      low = omega (arith, p.low, q.low);
      few = λ listing. omega (arith, p.few listing, q.few listing);
    })

block_sound : (most depth_left : ℕ) → BlockSoundly most depth_left → (ws : List Lexeme) (s : Statement) (rest : List Lexeme) → as_one Block (block most depth_left ws) ≡ gave s rest → StatementSound most (suc depth_left) ws s rest
block_sound most depth_left blocks ws s rest e =
    let a = made_is Block (block most depth_left ws) s rest e in
    let p = blocks ws a.0 rest a.1 in
    subst (λ (x : Statement). StatementSound most (suc depth_left) ws x rest) a.2 (record { parts = p.parts; is = p.is; low = omega (arith, p.low); few = p.few })

-- ---- what is read is spelt so: select

waited_sound : (most depth_left : ℕ) (ws : List Lexeme) (c : Comm) (rest : List Lexeme) → waited most depth_left ws ≡ gave c rest → Sound comm_words IsComm comm_height depth_left comm_longest most ws c rest
unfolding waited
waited_sound most zero ws c rest e = absurd cc
waited_sound most (suc depth_left) ws c rest e = let p = comm_sound most depth_left ws c rest e in record { parts = p.parts; is = p.is; low = omega (arith, p.low, comm_below_is c); few = p.few }

-- a clause from its colon on
abbrev colon_words : OneClause → List Lexeme → List Lexeme
colon_words clause rest = Mark kinds.Colon ∷ body_words clause.body rest

clause_body_sound : (most depth_left : ℕ) → StatementSoundly most depth_left → (waits : Option Comm) (ws : List Lexeme) (c : OneClause) (rest : List Lexeme) → clause_body (statement most depth_left) waits ws ≡ gave c rest
    → (c.comm ≡ waits) × Sound colon_words (λ x. IsBody x.body) (λ x. statements_height x.body) depth_left (λ listing x. statements_longest listing x.body) most ws c rest
unfolding clause_body
clause_body_sound most depth_left sound waits ws c rest e =
    let of : Statements → OneClause = λ body. record { comm = waits; body = body } in
    let read : List Lexeme → Reading (List Statement × Bool) = λ inside. listed (statement most depth_left) clause_next Syntax (length inside) inside in
    let a = bind_ok (expect kinds.Colon ws) (λ inside. read inside >>= λ all. gave (of (made_statements all.0.0)) all.1) (c, rest) e in
    let b = bind_ok (read a.0) (λ all. gave (of (made_statements all.0.0)) all.1) (c, rest) a.2 in
    let l = listed_sound (clause_statements depth_left most) Syntax (record { one = entry_of clause_next unseparated most depth_left sound; more = clause_more_sound; end = λ ws trailing rest e. clause_end_sound ws trailing rest e }) (length a.0) a.0 b.0 b.1 in
    let p = body_sound clause_next unseparated most depth_left (length a.0) a.0 b.0 l in
    subst (λ (x : OneClause × List Lexeme). (x.0.comm ≡ waits) × Sound colon_words (λ y. IsBody y.body) (λ y. statements_height y.body) depth_left (λ listing y. statements_longest listing y.body) most ws x.0 x.1) (ok_is (of (made_statements b.0.0.0), b.0.1) (c, rest) b.2) (
      refl,
      record {
        parts = expect_is kinds.Colon ws a.0 a.1 ∙ ap (λ (x : List Lexeme). Mark kinds.Colon ∷ x) p.parts;
        is = p.is;
        low = p.low;
        few = p.few;
      },
    )

with_comm : (most depth_left : ℕ) (ws : List Lexeme) (waits : Option Comm) (c : OneClause) (rest : List Lexeme) → c.comm ≡ waits → ClauseSound most depth_left ws (record { comm = waits; body = c.body }) rest → ClauseSound most depth_left ws c rest
with_comm most depth_left ws waits c rest same sound =
    let path : record { comm = waits; body = c.body } ≡ c = λ i. record { comm = sym same i; body = c.body } in
    subst (λ (x : OneClause). ClauseSound most depth_left ws x rest) path sound

one_clause_sound : (most depth_left : ℕ) → StatementSoundly most depth_left → (ws : List Lexeme) (c : OneClause) (rest : List Lexeme) → one_clause most depth_left (statement most depth_left) ws ≡ gave c rest → ClauseSound most (suc depth_left) ws c rest
unfolding one_clause
one_clause_sound most depth_left sound (Mark kinds.Case ∷ ws) c rest e =
    let following' : Comm × List Lexeme → Reading OneClause = λ waits. clause_body (statement most depth_left) (Some waits.0) waits.1 in
    let a = bind_ok (waited most depth_left ws) following' (c, rest) (needing_ok 2 depth_left (waited most depth_left ws >>= following') (c, rest) e) in
    let p = waited_sound most depth_left ws a.0.0 a.0.1 a.1 in
    let q = clause_body_sound most depth_left sound (Some a.0.0) a.0.1 c rest a.2 in
    with_comm most (suc depth_left) (Mark kinds.Case ∷ ws) (Some a.0.0) c rest q.0 (record {
      parts = ap (λ (x : List Lexeme). Mark kinds.Case ∷ x) (p.parts ∙ ap (comm_words a.0.0) q.1.parts);
      is = (p.is, q.1.is);
      low = omega (arith, p.low, q.1.low);
      few = λ listing. omega (arith, p.few listing, q.1.few listing);
    })
one_clause_sound most depth_left sound (Mark kinds.Default ∷ ws) c rest e =
    let q = clause_body_sound most depth_left sound None ws c rest (needing_ok 1 depth_left (clause_body (statement most depth_left) None ws) (c, rest) e) in
    with_comm most (suc depth_left) (Mark kinds.Default ∷ ws) None c rest q.0 (record {
      parts = ap (λ (x : List Lexeme). Mark kinds.Default ∷ x) q.1.parts;
      is = (tt, q.1.is);
      low = omega (arith, q.1.low);
      few = λ listing. omega (arith, q.1.few listing);
    })
one_clause_sound most depth_left sound ws c rest e = absurd cc

no_clause_read : (ws : List Lexeme) (c : OneClause) (rest : List Lexeme) → no_clause ws ≡ gave c rest → ⊥
unfolding no_clause
no_clause_read (Mark kinds.Case ∷ ws) c rest e = cc
no_clause_read (Mark kinds.Default ∷ ws) c rest e = cc
no_clause_read ws c rest e = cc

clauses_more_sound : (ws rest : List Lexeme) → clauses_next ws ≡ Ok (goes_on_with rest) → ws ≡ rest
unfolding clauses_next
clauses_more_sound ws rest e =
    elim (either (begins_with kinds.RightBrace ws) (expect kinds.RightBrace ws >>= λ after. Ok (ends_with false after)) (then_next (goes_on_with ws)) (goes_on_with rest) e) [
      | inl ends ↦
          let a = bind_ok (expect kinds.RightBrace ws) (λ after. then_next (ends_with false after)) (goes_on_with rest) ends.1 in
          absurd (not_more a.0 rest false a.2)
      | inr goes ↦ ap rest_of (ok_is (goes_on_with ws) (goes_on_with rest) goes.1)
    ]

clauses_end_sound : (ws : List Lexeme) (trailing : Bool) (rest : List Lexeme) → clauses_next ws ≡ Ok (ends_with trailing rest) → ws ≡ Mark kinds.RightBrace ∷ rest
unfolding clauses_next
clauses_end_sound ws trailing rest e =
    elim (either (begins_with kinds.RightBrace ws) (expect kinds.RightBrace ws >>= λ after. Ok (ends_with false after)) (then_next (goes_on_with ws)) (ends_with trailing rest) e) [
      | inl ends ↦
          let a = bind_ok (expect kinds.RightBrace ws) (λ after. then_next (ends_with false after)) (ends_with trailing rest) ends.1 in
          expect_is kinds.RightBrace ws a.0 a.1 ∙ ap (λ (x : Next × List Lexeme). Mark kinds.RightBrace ∷ x.1) (ok_is (ends_with false a.0) (ends_with trailing rest) a.2)
      | inr goes ↦ absurd (not_end ws rest trailing goes.1)
    ]

joined_unseparated : (all : List OneClause) (rest : List Lexeme) → joined clause_words unseparated all rest ≡ separated clause_words unseparated all rest
joined_unseparated [] rest = refl
joined_unseparated (c ∷ cs) rest = refl

-- what follows `select`
abbrev selected_words : Clauses → List Lexeme → List Lexeme
selected_words all rest = Mark kinds.LeftBrace ∷ clauses_words all (Mark kinds.RightBrace ∷ rest)

abbrev selected_longest : Listing → Clauses → ℕ
selected_longest listing all = max (clause_entries listing (clauses_count all)) (clauses_longest listing all)

abbrev ClausesSound : (most depth_left : ℕ) → List Lexeme → Clauses → List Lexeme → Type 0
ClausesSound most depth_left = Sound selected_words AreClauses clauses_height depth_left selected_longest most

-- the clauses of a select, from what was read of them
clauses_sound : (most depth_left : ℕ) (ws inside : List Lexeme) (found : (List OneClause × Bool) × List Lexeme) → ws ≡ Mark kinds.LeftBrace ∷ inside → AreEntries (clauses_of depth_left most) most inside found → ClausesSound most depth_left ws (clauses found.0.0) found.1
clauses_sound most depth_left ws inside found braces are =
    let all = clauses found.0.0 in
    let following' = Mark kinds.RightBrace ∷ found.1 in
    let same : clauses_in all ≡ found.0.0 = clauses_in-clauses found.0.0 in
    let words : clauses_words all following' ≡ joined clause_words unseparated found.0.0 following' =
    clauses_list all following' ∙ ap (λ (cs : List OneClause). separated clause_words unseparated cs following') same ∙ sym (joined_unseparated found.0.0 following') in
    let count : clauses_count all ≤ most = omega (arith, are.count, sym (clauses_length all), ap (λ (cs : List OneClause). length cs) same) in
    record {
      parts = braces ∙ ap (λ (x : List Lexeme). Mark kinds.LeftBrace ∷ x) (are.parts ∙ sym words);
      is = are_clauses all (subst (AreAll IsClause) (sym same) (all_of IsClause found.0.0 are.are));
      low = omega (arith, are.low, sym (clauses_highest all), ap (highest clause_height) same);
      few = clause_entries_few most all count (λ listing. omega (arith, are.few listing, sym (clauses_longest_in listing all), ap (highest (clause_longest listing)) same));
    }

clause_entry : (most depth_left : ℕ) → ClauseSoundly most depth_left → (ws : List Lexeme) (c : OneClause) (rest : List Lexeme) → clause most depth_left ws ≡ Ok (c, rest) → IsEntry (clauses_of depth_left most) ws c rest
clause_entry most depth_left sound ws c rest e = let p = sound ws c rest e in record { parts = p.parts; is = p.is; low = p.low; few = p.few }

selected_sound : (most depth_left : ℕ) → ClauseSoundly most depth_left → (ws : List Lexeme) (all : Clauses) (rest : List Lexeme) → selected most (clause most depth_left) ws ≡ gave all rest → ClausesSound most depth_left ws all rest
unfolding selected
selected_sound most depth_left sound ws all rest e =
    let read : List Lexeme → Reading (List OneClause × Bool) = listed (clause most depth_left) clauses_next (TooMany SelectClauses) most in
    let none : List Lexeme → Reading Clauses = λ inside. expect kinds.RightBrace inside >>= λ after. gave (clauses []) after in
    let some : List Lexeme → Reading Clauses = λ inside. read inside >>= λ found. gave (clauses found.0.0) found.1 in
    let a = bind_ok (expect kinds.LeftBrace ws) (λ inside. cond (begins_with kinds.RightBrace inside) (none inside) (some inside)) (all, rest) e in
    let braces = expect_is kinds.LeftBrace ws a.0 a.1 in
    elim (either (begins_with kinds.RightBrace a.0) (none a.0) (some a.0) (all, rest) a.2) [
      | inl ends ↦
          let b = bind_ok (expect kinds.RightBrace a.0) (λ after. gave (clauses []) after) (all, rest) ends.1 in
          subst (λ (x : Clauses × List Lexeme). ClausesSound most depth_left ws x.0 x.1) (ok_is (clauses [], b.0) (all, rest) b.2) (record {
            parts = braces ∙ ap (λ (x : List Lexeme). Mark kinds.LeftBrace ∷ x) (expect_is kinds.RightBrace a.0 b.0 b.1);
            is = tt;
            low = omega arith;
            few = λ listing. omega (arith, clause_entries-le listing 0);
          })
      | inr goes ↦
          let b = bind_ok (read a.0) (λ found. gave (clauses found.0.0) found.1) (all, rest) goes.1 in
          let l = listed_sound (clauses_of depth_left most) (TooMany SelectClauses) (record { one = clause_entry most depth_left sound; more = clauses_more_sound; end = clauses_end_sound }) most a.0 b.0 b.1 in
          subst (λ (x : Clauses × List Lexeme). ClausesSound most depth_left ws x.0 x.1) (ok_is (clauses b.0.0.0, b.0.1) (all, rest) b.2) (clauses_sound most depth_left ws a.0 b.0 braces l)
    ]

select_sound : (most depth_left : ℕ) → ClauseSoundly most depth_left → (ws : List Lexeme) (s : Statement) (rest : List Lexeme) → as_one Select (selected most (clause most depth_left) ws) ≡ gave s rest → StatementSound most (suc depth_left) (Mark kinds.Select ∷ ws) s rest
select_sound most depth_left sound ws s rest e =
    let a = made_is Select (selected most (clause most depth_left) ws) s rest e in
    let p = selected_sound most depth_left sound ws a.0 rest a.1 in
    subst (λ (x : Statement). StatementSound most (suc depth_left) (Mark kinds.Select ∷ ws) x rest) a.2 (record { parts = ap (λ (x : List Lexeme). Mark kinds.Select ∷ x) p.parts; is = p.is; low = omega (arith, p.low); few = p.few })

-- ---- what is read is spelt so: statements

marked_sound : (most depth_left : ℕ) → BlockSoundly most depth_left → BranchSoundly most depth_left → ClauseSoundly most depth_left
    → (kind : TokenKind) (ws : List Lexeme) (s : Statement) (rest : List Lexeme) → marked most depth_left (block most depth_left) (branch most depth_left) (clause most depth_left) kind ws ≡ gave s rest → StatementSound most (suc depth_left) (Mark kind ∷ ws) s rest
marked_sound most depth_left blocks branches sound kinds.LeftBrace ws s rest e = block_sound most depth_left blocks (Mark kinds.LeftBrace ∷ ws) s rest (needing_ok 2 depth_left (as_one Block (block most depth_left (Mark kinds.LeftBrace ∷ ws))) (s, rest) e)
marked_sound most depth_left blocks branches sound kinds.If ws s rest e = if_sound most depth_left blocks branches ws s rest e
marked_sound most depth_left blocks branches sound kinds.For ws s rest e = for_sound most depth_left blocks ws s rest e
marked_sound most depth_left blocks branches sound kinds.Select ws s rest e = select_sound most depth_left sound ws s rest e
marked_sound most depth_left blocks branches sound kind ws s rest e = leaf_sound most depth_left kind ws s rest e

stated_sound : (most depth_left : ℕ) → BlockSoundly most depth_left → BranchSoundly most depth_left → ClauseSoundly most depth_left
    → (ws : List Lexeme) (s : Statement) (rest : List Lexeme) → stated most depth_left (block most depth_left) (branch most depth_left) (clause most depth_left) ws ≡ gave s rest → StatementSound most (suc depth_left) ws s rest
unfolding stated
stated_sound most depth_left blocks branches sound [] s rest e = alone_sound most depth_left [] s rest e
stated_sound most depth_left blocks branches sound (Literal value ∷ ws) s rest e = alone_sound most depth_left (Literal value ∷ ws) s rest e
stated_sound most depth_left blocks branches sound (Name name ∷ ws) s rest e = alone_sound most depth_left (Name name ∷ ws) s rest e
stated_sound most depth_left blocks branches sound (Text bytes ∷ ws) s rest e = alone_sound most depth_left (Text bytes ∷ ws) s rest e
stated_sound most depth_left blocks branches sound (Mark kind ∷ ws) s rest e = marked_sound most depth_left blocks branches sound kind ws s rest e

mutual
  unfolding statement

  read_sound : (most depth_left : ℕ) → StatementSoundly most depth_left
  read_sound most zero ws s rest e = absurd cc
  read_sound most (suc depth_left) ws s rest e = stated_sound most depth_left (block_read most depth_left) (branch_read most depth_left) (clause_read most depth_left) ws s rest e

  block_read : (most depth_left : ℕ) → BlockSoundly most depth_left
  block_read most zero ws body rest e = absurd cc
  block_read most (suc depth_left) ws body rest e = braced_sound most depth_left (read_sound most depth_left) ws body rest e

  branch_read : (most depth_left : ℕ) → BranchSoundly most depth_left
  branch_read most zero ws b rest e = absurd cc
  branch_read most (suc depth_left) ws b rest e = branched_sound most depth_left (block_read most depth_left) (branch_read most depth_left) ws b rest e

  clause_read : (most depth_left : ℕ) → ClauseSoundly most depth_left
  clause_read most zero ws c rest e = absurd (no_clause_read ws c rest e)
  clause_read most (suc depth_left) ws c rest e = one_clause_sound most depth_left (read_sound most depth_left) ws c rest e

pub statement_sound : (depth_left most : ℕ) (ws : List Lexeme) (s : Statement) (rest : List Lexeme) → statement most depth_left ws ≡ Ok (s, rest) → IsEntry (statements depth_left most) ws s rest
statement_sound depth_left most = entry_of statement_next (λ rest. Mark kinds.RightBrace ∷ rest) most depth_left (read_sound most depth_left)

pub statements_sound : (depth_left most : ℕ) → ReadsSoundly (statements depth_left most)
statements_sound depth_left most = record { one = statement_sound depth_left most; more = statement_more_sound; end = statement_end_sound }
