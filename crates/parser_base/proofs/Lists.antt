-- The entries of a list one after the other, as a loop reads them.
use Rattle.std.proofs.Common.{◌≡◌, ℕ, suc, ◌-◌, ◌+◌, ◌<◌, ◌≤◌, Bool, List, [], ◌∷◌, ◌++◌, Ok, Err, map, max, refl, sym, ap, ◌∙◌, arith, append_assoc}
use Rattle.std.proofs.lemmas.List.{map-append}
use Rattle.parser_base.specs.declared.fault.ParseFault.{ParseFault}
use Rattle.syntax.specs.Measures.{highest}
use Rattle.parser_base.specs.declared.list.Next.{Next}
use Rattle.parser_base.specs.declared.list.Next.TheVariants.{More, End}
use Rattle.parser_base.specs.Lexemes.{Lexeme}
use Rattle.parser_base.specs.Reading.{Refusal, Reading, ◌>>=◌, Fails, followed, listed}
use Rattle.parser_base.proofs.Results.{fails_on}

-- these, and then those that are read
abbrev pub with_front : {X : Type 0} → List X → Reading (List X × Bool) → Reading (List X × Bool)
with_front front read = read >>= λ found. Ok ((front ++ found.0.0, found.0.1), found.1)

pub one_more : {A X : Type 0} (view : A → X) (front : List A) (x : A) → map view (front ++ x ∷ []) ≡ map view front ++ view x ∷ []
one_more view front x = map-append view front (x ∷ [])

pub regroup : {A X : Type 0} (view : A → X) (front : List A) (x : A) (read : Reading (List X × Bool))
    → with_front (map view front) (read >>= λ others. Ok ((view x ∷ others.0.0, others.0.1), others.1)) ≡ with_front (map view (front ++ x ∷ [])) read
regroup view front x (Ok found) =
    let e : map view front ++ view x ∷ found.0.0 ≡ map view (front ++ x ∷ []) ++ found.0.0 =
    sym (append_assoc (map view front) (view x ∷ []) found.0.0) ∙ ap (λ (xs : List _). xs ++ found.0.0) (sym (one_more view front x)) in
    ap (λ (xs : List _). Ok ((xs, found.0.1), found.1)) e
regroup view front x (Err refusal) = refl

turn : {X : Type 0} (one : List Lexeme → Reading X) (next : List Lexeme → Reading Next) (full : Refusal) (turns i : ℕ) (ws : List Lexeme) → i < turns
    → listed one next full (turns - i) ws ≡ (one ws >>= λ first. next first.1 >>= λ after. followed first.0 (listed one next full (turns - (i + 1))) after)
unfolding listed
turn one next full turns i ws lt =
    let k : turns - i ≡ suc (turns - (i + 1)) = omega arith in
    ap (λ (n : ℕ). listed one next full n ws) k

pub same : {X : Type 0} (read : Reading (List X × Bool)) → with_front [] read ≡ read
same (Ok found) = refl
same (Err refusal) = refl

pub starts : {X : Type 0} (one : List Lexeme → Reading X) (next : List Lexeme → Reading Next) (full : Refusal) (turns : ℕ) (ws : List Lexeme) → with_front [] (listed one next full (turns - 0) ws) ≡ listed one next full turns ws
starts one next full turns ws =
    let k : turns - 0 ≡ turns = omega arith in
    same (listed one next full (turns - 0) ws) ∙ ap (λ (n : ℕ). listed one next full n ws) k

pub more : {A X : Type 0} (view : A → X) (one : List Lexeme → Reading X) (next : List Lexeme → Reading Next) (full : Refusal) (turns i : ℕ) (front : List A) (ws : List Lexeme) (x : A) (after rest : List Lexeme) (total : Reading (List X × Bool)) → i < turns → one ws ≡ Ok (view x, after) → next after ≡ Ok (More, rest)
    → with_front (map view front) (listed one next full (turns - i) ws) ≡ total → with_front (map view (front ++ x ∷ [])) (listed one next full (turns - (i + 1)) rest) ≡ total
more view one next full turns i front ws x after rest total lt e n so_far =
    let begins : listed one next full (turns - i) ws ≡ (listed one next full (turns - (i + 1)) rest >>= λ others. Ok ((view x ∷ others.0.0, others.0.1), others.1)) = turn one next full turns i ws lt ∙ rw (e, n) refl in
    sym (ap (with_front (map view front)) begins ∙ regroup view front x (listed one next full (turns - (i + 1)) rest)) ∙ so_far

pub ends : {A X : Type 0} (view : A → X) (one : List Lexeme → Reading X) (next : List Lexeme → Reading Next) (full : Refusal) (turns i : ℕ) (front : List A) (ws : List Lexeme) (x : A) (trailing : Bool) (after rest : List Lexeme) (total : Reading (List X × Bool)) → i < turns → one ws ≡ Ok (view x, after) → next after ≡ Ok (End trailing, rest)
    → with_front (map view front) (listed one next full (turns - i) ws) ≡ total → total ≡ Ok ((map view (front ++ x ∷ []), trailing), rest)
ends view one next full turns i front ws x trailing after rest total lt e n so_far =
    let begins : listed one next full (turns - i) ws ≡ Ok ((view x ∷ [], trailing), rest) = turn one next full turns i ws lt ∙ rw (e, n) refl in
    sym so_far ∙ ap (with_front (map view front)) begins ∙ ap (λ (xs : List _). Ok ((xs, trailing), rest)) (sym (one_more view front x))

pub one_fails : {X : Type 0} (fault : ParseFault) (one : List Lexeme → Reading X) (next : List Lexeme → Reading Next) (full : Refusal) (turns i : ℕ) (front : List X) (ws : List Lexeme) (total : Reading (List X × Bool)) → i < turns → Fails fault (one ws)
    → with_front front (listed one next full (turns - i) ws) ≡ total → Fails fault total
one_fails fault one next full turns i front ws total lt fails so_far =
    fails_on fault (one ws) total fails (λ r e.
    let begins : listed one next full (turns - i) ws ≡ Err r = turn one next full turns i ws lt ∙ rw e refl in
    sym so_far ∙ ap (with_front front) begins)

pub next_fails : {X : Type 0} (fault : ParseFault) (one : List Lexeme → Reading X) (next : List Lexeme → Reading Next) (full : Refusal) (turns i : ℕ) (front : List X) (ws : List Lexeme) (x : X) (after : List Lexeme) (total : Reading (List X × Bool)) → i < turns → one ws ≡ Ok (x, after) → Fails fault (next after)
    → with_front front (listed one next full (turns - i) ws) ≡ total → Fails fault total
next_fails fault one next full turns i front ws x after total lt o fails so_far =
    fails_on fault (next after) total fails (λ r e.
    let begins : listed one next full (turns - i) ws ≡ Err r = turn one next full turns i ws lt ∙ rw (o, e) refl in
    sym so_far ∙ ap (with_front front) begins)

-- no turn is left
pub is_full : {X : Type 0} (one : List Lexeme → Reading X) (next : List Lexeme → Reading Next) (full : Refusal) (turns i : ℕ) (front : List X) (ws : List Lexeme) (total : Reading (List X × Bool)) → turns ≤ i
    → with_front front (listed one next full (turns - i) ws) ≡ total → total ≡ Err full
unfolding listed
is_full one next full turns i front ws total le so_far =
    let k : turns - i ≡ 0 = omega arith in
    sym so_far ∙ ap (λ (n : ℕ). with_front front (listed one next full n ws)) k

highest-append : {X : Type 0} (height : X → ℕ) (front : List X) (x : X) → highest height (front ++ x ∷ []) ≡ max (highest height front) (height x)
highest-append height [] x = omega arith
highest-append height (y ∷ front) x = omega (arith, highest-append height front x)

-- the highest of what was pushed
pub highest-pushed : {A X : Type 0} (view : A → X) (height : X → ℕ) (front : List A) (x : A) → highest height (map view (front ++ x ∷ [])) ≡ max (highest height (map view front)) (height (view x))
highest-pushed view height front x = ap (highest height) (one_more view front x) ∙ highest-append height (map view front) (view x)
