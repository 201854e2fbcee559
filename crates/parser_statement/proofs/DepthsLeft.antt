-- A statement and its parts, with the levels that are left below them.
use Rattle.std.proofs.Common.{◌≡◌, ℕ, zero, suc, ◌-◌, ◌≤◌, Bool, List, length, Ok, refl, ap, ◌∙◌, arith}
use Rattle.parser_base.specs.declared.fault.ParseFault.{ParseFault}
use Rattle.scanner.specs.declared.kind.TokenKind.TheVariants as kinds
use Rattle.syntax.specs.Tree.{Statement, statements}
use Rattle.parser_base.specs.Lexemes.{Lexeme}
use Rattle.parser_base.specs.Reading.{Syntax, Fails, expect, listed}
use Rattle.parser_base.proofs.Results.{fails_on}
use Rattle.parser_statement.specs.Reading.{statement_next, braced, one_clause, stated, statement, block, branch, clause}

pub statement_begins : (most depth_left : ℕ) (ws : List Lexeme) → 1 ≤ depth_left → statement most depth_left ws ≡ stated most (depth_left - 1) (block most (depth_left - 1)) (branch most (depth_left - 1)) (clause most (depth_left - 1)) ws
unfolding statement
statement_begins most zero ws h = absurd (omega arith)
statement_begins most (suc depth_left) ws h =
    let e : depth_left ≡ suc depth_left - 1 = omega arith in
    ap (λ (r : ℕ). stated most r (block most r) (branch most r) (clause most r) ws) e

pub clause_begins : (most depth_left : ℕ) (ws : List Lexeme) → 1 ≤ depth_left → clause most depth_left ws ≡ one_clause most (depth_left - 1) (statement most (depth_left - 1)) ws
unfolding statement
clause_begins most zero ws h = absurd (omega arith)
clause_begins most (suc depth_left) ws h =
    let e : depth_left ≡ suc depth_left - 1 = omega arith in
    ap (λ (r : ℕ). one_clause most r (statement most r) ws) e

block_begins : (most depth_left : ℕ) (ws : List Lexeme) → 1 ≤ depth_left → block most depth_left ws ≡ braced (statement most (depth_left - 1)) ws
unfolding statement
block_begins most zero ws h = absurd (omega arith)
block_begins most (suc depth_left) ws h =
    let e : depth_left ≡ suc depth_left - 1 = omega arith in
    ap (λ (r : ℕ). braced (statement most r) ws) e

pub block_done : (most depth_left : ℕ) (ws inside : List Lexeme) (all : List Statement) (trailing : Bool) (rest : List Lexeme) → 1 ≤ depth_left → expect kinds.LeftBrace ws ≡ Ok inside
    → listed (statement most (depth_left - 1)) statement_next Syntax (length inside) inside ≡ Ok ((all, trailing), rest) → block most depth_left ws ≡ Ok (statements all, rest)
unfolding braced
block_done most depth_left ws inside all trailing rest h braces read = block_begins most depth_left ws h ∙ rw (braces, read) refl

pub block_fails : (fault : ParseFault) (most depth_left : ℕ) (ws inside : List Lexeme) → 1 ≤ depth_left → expect kinds.LeftBrace ws ≡ Ok inside → Fails fault (listed (statement most (depth_left - 1)) statement_next Syntax (length inside) inside)
    → Fails fault (block most depth_left ws)
unfolding braced
block_fails fault most depth_left ws inside h braces fails =
    fails_on fault (listed (statement most (depth_left - 1)) statement_next Syntax (length inside) inside) (block most depth_left ws) fails (λ r e. block_begins most depth_left ws h ∙ rw (braces, e) refl)
