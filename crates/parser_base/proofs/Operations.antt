-- One turn of reading steps, as the loop makes it.
use Rattle.std.proofs.Common.{◌≡◌, ℕ, zero, suc, ◌+◌, ◌-◌, ◌<◌, ◌≤◌, Bool, List, Some, None, Ok, Err, true, false, leb, refl, ap, ◌∙◌, sym, arith}
use Rattle.std.proofs.lemmas.Bool.{le-leb, lt-leb}
use Rattle.parser_base.specs.declared.fault.ParseFault.{ParseFault}
use Rattle.syntax.specs.Tree.{Expression}
use Rattle.syntax.specs.Measures.{expression_height}
use Rattle.parser_base.specs.declared.operator.Infix.{Infix}
use Rattle.parser_base.specs.Lexemes.{Lexeme}
use Rattle.parser_base.specs.Reading.{Reading, TooDeep, Fails, ◌>>=◌, step_at, operand, applied, operation, operations, expression, resumed}
use Rattle.parser_base.proofs.Results.{fails_on}

-- an expression is what is read from its first operand on
pub opens : (literals : Bool) (most depth_left least : ℕ) (ws : List Lexeme) (left : Expression) (rest : List Lexeme) → 1 ≤ depth_left → operand literals (expression literals most (depth_left - 1)) (depth_left - 1) most ws ≡ Ok (left, rest)
    → expression literals most depth_left least ws ≡ resumed literals most depth_left least left rest
unfolding expression resumed
opens literals most zero least ws left rest h e = absurd (omega arith)
opens literals most (suc depth_left) least ws left rest h e =
    let same : suc depth_left - 1 ≡ depth_left = omega arith in
    let first = rw same at e in
    ap (λ (r : Reading Expression). r >>= λ x. operations (expression literals most depth_left) (suc depth_left) least (suc depth_left) x.0 x.1) first

-- and fails if that fails
pub opens_fails : (fault : ParseFault) (literals : Bool) (most depth_left least : ℕ) (ws : List Lexeme) → 1 ≤ depth_left → Fails fault (operand literals (expression literals most (depth_left - 1)) (depth_left - 1) most ws) → Fails fault (expression literals most depth_left least ws)
unfolding expression
opens_fails fault literals most zero least ws h e = absurd (omega arith)
opens_fails fault literals most (suc depth_left) least ws h e =
    let same : suc depth_left - 1 ≡ depth_left = omega arith in
    let first = rw same at e in
    fails_on fault (operand literals (expression literals most depth_left) depth_left most ws) (expression literals most (suc depth_left) least ws) first
    (λ r is. ap (λ (x : Reading Expression). x >>= λ y. operations (expression literals most depth_left) (suc depth_left) least (suc depth_left) y.0 y.1) is)

-- all turns are still to come
pub resumes : (literals : Bool) (most depth_left least : ℕ) (left : Expression) (ws : List Lexeme) → operations (expression literals most (depth_left - 1)) depth_left least (depth_left - 0) left ws ≡ resumed literals most depth_left least left ws
unfolding operations resumed
resumes literals most zero least left ws = refl
resumes literals most (suc depth_left) least left ws =
    let same : suc depth_left - 1 ≡ depth_left = omega arith in
    let all : suc depth_left - 0 ≡ suc depth_left = omega arith in
    rw (same, all) refl

turn : (deeper : ℕ → List Lexeme → Reading Expression) (depth_left least turns i : ℕ) (left : Expression) (ws : List Lexeme) → i < turns
    → operations deeper depth_left least (turns - i) left ws ≡ operation deeper (operations deeper depth_left least (turns - (i + 1))) depth_left left ws (step_at least ws)
unfolding operations
turn deeper depth_left least turns i left ws h =
    let k : turns - i ≡ suc (turns - (i + 1)) = omega arith in
    rw k refl

-- no step follows
pub turn_stops : (deeper : ℕ → List Lexeme → Reading Expression) (depth_left least turns i : ℕ) (left : Expression) (ws : List Lexeme) (total : Reading Expression) → i < turns → step_at least ws ≡ None
    → operations deeper depth_left least (turns - i) left ws ≡ total → total ≡ Ok (left, ws)
unfolding operation
turn_stops deeper depth_left least turns i left ws total h none so_far =
    sym so_far ∙ turn deeper depth_left least turns i left ws h ∙ rw none refl

-- a step follows what is so high already
pub turn_too_high : (deeper : ℕ → List Lexeme → Reading Expression) (depth_left least turns i : ℕ) (left : Expression) (ws : List Lexeme) (step : Infix) (after : List Lexeme) (total : Reading Expression) → i < turns → Some (step, after) ≡ step_at least ws → depth_left ≤ expression_height left
    → operations deeper depth_left least (turns - i) left ws ≡ total → total ≡ Err TooDeep
unfolding operation
turn_too_high deeper depth_left least turns i left ws step after total h found high so_far =
    let b : leb depth_left (expression_height left) ≡ true = le-leb _ _ high in
    sym so_far ∙ turn deeper depth_left least turns i left ws h ∙ rw (← found, b) refl

goes_on : (deeper : ℕ → List Lexeme → Reading Expression) (depth_left least turns i : ℕ) (left : Expression) (ws : List Lexeme) (step : Infix) (after : List Lexeme) → i < turns → Some (step, after) ≡ step_at least ws → expression_height left < depth_left
    → operations deeper depth_left least (turns - i) left ws ≡ (applied deeper left (step, after) >>= λ more. operations deeper depth_left least (turns - (i + 1)) more.0 more.1)
unfolding operation
goes_on deeper depth_left least turns i left ws step after h found low =
    let b : leb depth_left (expression_height left) ≡ false = lt-leb _ _ low in
    turn deeper depth_left least turns i left ws h ∙ rw (← found, b) refl

pub turn_done : (deeper : ℕ → List Lexeme → Reading Expression) (depth_left least turns i : ℕ) (left : Expression) (ws : List Lexeme) (step : Infix) (after : List Lexeme) (more : Expression) (others : List Lexeme) (total : Reading Expression) → i < turns → Some (step, after) ≡ step_at least ws → expression_height left < depth_left → applied deeper left (step, after) ≡ Ok (more, others)
    → operations deeper depth_left least (turns - i) left ws ≡ total → operations deeper depth_left least (turns - (i + 1)) more others ≡ total
turn_done deeper depth_left least turns i left ws step after more others total h found low e so_far =
    sym (goes_on deeper depth_left least turns i left ws step after h found low ∙ rw e refl) ∙ so_far

pub turn_fails : (fault : ParseFault) (deeper : ℕ → List Lexeme → Reading Expression) (depth_left least turns i : ℕ) (left : Expression) (ws : List Lexeme) (step : Infix) (after : List Lexeme) (total : Reading Expression) → i < turns → Some (step, after) ≡ step_at least ws → expression_height left < depth_left → Fails fault (applied deeper left (step, after))
    → operations deeper depth_left least (turns - i) left ws ≡ total → Fails fault total
turn_fails fault deeper depth_left least turns i left ws step after total h found low fails so_far =
    fails_on fault (applied deeper left (step, after)) total fails (λ r e. sym so_far ∙ goes_on deeper depth_left least turns i left ws step after h found low ∙ rw e refl)
