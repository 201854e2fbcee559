-- Fields and parameters one after the other, as a loop reads them.
use Rattle.std.proofs.Common.{◌≡◌, ℕ, suc, ◌-◌, ◌+◌, ◌<◌, ◌≤◌, Bool, List, [], ◌∷◌, ◌++◌, length, Ok, Err, map, refl, sym, ap, ◌∙◌, arith}
use Rattle.scanner.specs.declared.kind.TokenKind.{TokenKind}
use Rattle.parser_base.specs.declared.fault.ParseFault.{ParseFault}
use Rattle.syntax.specs.Tree.{Declared}
use Rattle.syntax.specs.Measures.{Entries}
use Rattle.syntax.specs.declared.node.DeclaredNode.{DeclaredNode}
use Rattle.syntax.specs.View.{declared_of}
use Rattle.parser_base.specs.declared.list.Next.{Next}
use Rattle.parser_base.specs.declared.list.Next.TheVariants.{More, End}
use Rattle.parser_base.specs.Lexemes.{Lexeme}
use Rattle.parser_base.specs.Reading.{TooMany, Reading, ◌>>=◌, Fails, followed, entry_next}
use Rattle.parser_base.proofs.Results.{fails_on}
use Rattle.parser_base.proofs.Lists.{with_front, one_more, regroup, same}
use Rattle.parser_simple.specs.Reading.{begins_name}
use Rattle.parser.specs.Reading.{declared, some_declared}

-- what follows names and a type
abbrev pub next_of : (separator close : TokenKind) → List Lexeme → Reading Next
next_of separator close = entry_next separator begins_name close

turn : (separator close : TokenKind) (depth_left turns i left : ℕ) (ws : List Lexeme) → i < turns
    → some_declared separator close depth_left (turns - i) left ws ≡ (declared left depth_left ws >>= λ first. next_of separator close first.1 >>= λ after. followed first.0 (some_declared separator close depth_left (turns - (i + 1)) (left - length first.0.names)) after)
unfolding some_declared
turn separator close depth_left turns i left ws lt =
    let k : turns - i ≡ suc (turns - (i + 1)) = omega arith in
    ap (λ (n : ℕ). some_declared separator close depth_left n left ws) k

pub starts : (separator close : TokenKind) (depth_left turns left : ℕ) (ws : List Lexeme) → with_front [] (some_declared separator close depth_left (turns - 0) left ws) ≡ some_declared separator close depth_left turns left ws
starts separator close depth_left turns left ws =
    let k : turns - 0 ≡ turns = omega arith in
    same (some_declared separator close depth_left (turns - 0) left ws) ∙ ap (λ (n : ℕ). some_declared separator close depth_left n left ws) k

pub more : (separator close : TokenKind) (depth_left turns i left fewer : ℕ) (front : List DeclaredNode) (ws : List Lexeme) (x : DeclaredNode) (after rest : List Lexeme) (total : Reading (List Declared × Bool)) → i < turns → fewer ≡ left - length (declared_of x).names → declared left depth_left ws ≡ Ok (declared_of x, after) → next_of separator close after ≡ Ok (More, rest)
    → with_front (map declared_of front) (some_declared separator close depth_left (turns - i) left ws) ≡ total
    → with_front (map declared_of (front ++ x ∷ [])) (some_declared separator close depth_left (turns - (i + 1)) fewer rest) ≡ total
more separator close depth_left turns i left fewer front ws x after rest total lt count e n so_far =
    let others = some_declared separator close depth_left (turns - (i + 1)) fewer rest in
    let begins : some_declared separator close depth_left (turns - i) left ws ≡ (others >>= λ others. Ok ((declared_of x ∷ others.0.0, others.0.1), others.1)) = turn separator close depth_left turns i left ws lt ∙ rw (e, n, ← count) refl in
    sym (ap (with_front (map declared_of front)) begins ∙ regroup declared_of front x others) ∙ so_far

pub ends : (separator close : TokenKind) (depth_left turns i left : ℕ) (front : List DeclaredNode) (ws : List Lexeme) (x : DeclaredNode) (trailing : Bool) (after rest : List Lexeme) (total : Reading (List Declared × Bool)) → i < turns → declared left depth_left ws ≡ Ok (declared_of x, after) → next_of separator close after ≡ Ok (End trailing, rest)
    → with_front (map declared_of front) (some_declared separator close depth_left (turns - i) left ws) ≡ total → total ≡ Ok ((map declared_of (front ++ x ∷ []), trailing), rest)
ends separator close depth_left turns i left front ws x trailing after rest total lt e n so_far =
    let begins : some_declared separator close depth_left (turns - i) left ws ≡ Ok ((declared_of x ∷ [], trailing), rest) = turn separator close depth_left turns i left ws lt ∙ rw (e, n) refl in
    sym so_far ∙ ap (with_front (map declared_of front)) begins ∙ ap (λ (xs : List Declared). Ok ((xs, trailing), rest)) (sym (one_more declared_of front x))

pub one_fails : (fault : ParseFault) (separator close : TokenKind) (depth_left turns i left : ℕ) (front : List Declared) (ws : List Lexeme) (total : Reading (List Declared × Bool)) → i < turns → Fails fault (declared left depth_left ws)
    → with_front front (some_declared separator close depth_left (turns - i) left ws) ≡ total → Fails fault total
one_fails fault separator close depth_left turns i left front ws total lt fails so_far =
    fails_on fault (declared left depth_left ws) total fails (λ r e.
    let begins : some_declared separator close depth_left (turns - i) left ws ≡ Err r = turn separator close depth_left turns i left ws lt ∙ rw e refl in
    sym so_far ∙ ap (with_front front) begins)

pub next_fails : (fault : ParseFault) (separator close : TokenKind) (depth_left turns i left : ℕ) (front : List Declared) (ws : List Lexeme) (x : Declared) (after : List Lexeme) (total : Reading (List Declared × Bool)) → i < turns → declared left depth_left ws ≡ Ok (x, after) → Fails fault (next_of separator close after)
    → with_front front (some_declared separator close depth_left (turns - i) left ws) ≡ total → Fails fault total
next_fails fault separator close depth_left turns i left front ws x after total lt o fails so_far =
    fails_on fault (next_of separator close after) total fails (λ r e.
    let begins : some_declared separator close depth_left (turns - i) left ws ≡ Err r = turn separator close depth_left turns i left ws lt ∙ rw (o, e) refl in
    sym so_far ∙ ap (with_front front) begins)

-- no turn is left
pub is_full : (separator close : TokenKind) (depth_left turns i left : ℕ) (front : List Declared) (ws : List Lexeme) (total : Reading (List Declared × Bool)) → turns ≤ i
    → with_front front (some_declared separator close depth_left (turns - i) left ws) ≡ total → total ≡ Err (TooMany Entries)
unfolding some_declared
is_full separator close depth_left turns i left front ws total le so_far =
    let k : turns - i ≡ 0 = omega arith in
    sym so_far ∙ ap (λ (n : ℕ). with_front front (some_declared separator close depth_left n left ws)) k
