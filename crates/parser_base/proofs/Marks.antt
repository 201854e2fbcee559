-- Marks that are wanted.
use Rattle.std.proofs.Common.{◌≡◌, ℕ, bytes_eq, List, [], ◌∷◌, Result, Ok, Err, Bool, true, false, cond, refl, subst}
use denote.Enum.Bare.{same_true, true_same}
use Rattle.std.proofs.lemmas.Slice.Eq.{bytes_eq-Decides}
use Rattle.scanner.specs.contracts.kind.TokenKind.{the_type}
use Rattle.scanner.specs.declared.kind.TokenKind.{TokenKind}
use Rattle.parser_base.specs.Lexemes.{Lexeme, Literal, Name, Text, Mark}
use Rattle.parser_base.specs.Spelling.{is_builtin}
use Rattle.parser_base.specs.Reading.{Refusal, ◌>>=◌, is_kind, expect, expect_name, plain_name}

pub kind_is : (a b : TokenKind) → is_kind a b ≡ true → a ≡ b
kind_is a b e = same_true the_type tt a b e

pub is_kind_same : (kind : TokenKind) → is_kind kind kind ≡ true
is_kind_same kind = true_same the_type kind kind refl

-- ---- results

-- the value of a step that did not fail
pub bind_ok : {A B : Type 0} (r : Result A Refusal) (f : A → Result B Refusal) (y : B) → (r >>= f) ≡ Ok y → (x : A) × (r ≡ Ok x) × (f x ≡ Ok y)
bind_ok (Ok x) f y e = (x, refl, e)
bind_ok (Err d) f y e = absurd cc

-- one step that did not fail, and then the next: what follows has its value as a variable
pub in_turn : {A B P : Type 0} (r : Result A Refusal) (f : A → Result B Refusal) (y : B) → (r >>= f) ≡ Ok y → ((x : A) → r ≡ Ok x → f x ≡ Ok y → P) → P
in_turn r f y e goes =
    let step = bind_ok r f y e in
    goes step.0 step.1 step.2

-- a test that refuses if it holds
pub unless_ok : {A : Type 0} (b : Bool) (d : Refusal) (r : Result A Refusal) (y : A) → cond b (Err d) r ≡ Ok y → (b ≡ false) × (r ≡ Ok y)
unless_ok true d r y e = absurd cc
unless_ok false d r y e = (refl, e)

-- a test that refuses if it fails
pub when_ok : {A : Type 0} (b : Bool) (d : Refusal) (r : Result A Refusal) (y : A) → cond b r (Err d) ≡ Ok y → (b ≡ true) × (r ≡ Ok y)
when_ok true d r y e = (refl, e)
when_ok false d r y e = absurd cc

abbrev done : {A : Type 0} → A → Result A Refusal
done x = Ok x

pub ok_is : {A : Type 0} (x y : A) → done x ≡ done y → x ≡ y
ok_is x y e = cc

-- ---- marks

pub expect_is : (kind : TokenKind) (ws rest : List Lexeme) → expect kind ws ≡ Ok rest → ws ≡ Mark kind ∷ rest
unfolding expect
expect_is kind [] rest e = absurd cc
expect_is kind (Literal value ∷ ws) rest e = absurd cc
expect_is kind (Name bytes ∷ ws) rest e = absurd cc
expect_is kind (Text bytes ∷ ws) rest e = absurd cc
expect_is kind (Mark first ∷ ws) rest e =
    let w = when_ok (is_kind first kind) _ (Ok ws) rest e in
    λ i. Mark (kind_is first kind w.0 i) ∷ ok_is ws rest w.1 i

pub expect_again : (kind : TokenKind) (rest : List Lexeme) → expect kind (Mark kind ∷ rest) ≡ Ok rest
unfolding expect
expect_again kind rest = rw (is_kind_same kind) refl

-- ---- names

pub bytes_are : (a b : List ℕ) → bytes_eq a b ≡ true → a ≡ b
bytes_are a b e = (bytes_eq-Decides a b).0 e

pub expect_name_is : (name : List ℕ) (ws rest : List Lexeme) → expect_name name ws ≡ Ok rest → ws ≡ Name name ∷ rest
unfolding expect_name
expect_name_is name [] rest e = absurd cc
expect_name_is name (Literal value ∷ ws) rest e = absurd cc
expect_name_is name (Text bytes ∷ ws) rest e = absurd cc
expect_name_is name (Mark kind ∷ ws) rest e = absurd cc
expect_name_is name (Name first ∷ ws) rest e =
    let w = when_ok (bytes_eq first name) _ (Ok ws) rest e in
    λ i. Name (bytes_are first name w.0 i) ∷ ok_is ws rest w.1 i

abbrev with_rest : List ℕ → List Lexeme → List ℕ × List Lexeme
with_rest name rest = (name, rest)

pub plain_name_is : (ws : List Lexeme) (name : List ℕ) (rest : List Lexeme) → plain_name ws ≡ Ok (name, rest) → (ws ≡ Name name ∷ rest) × (is_builtin name ≡ false)
unfolding plain_name
plain_name_is [] name rest e = absurd cc
plain_name_is (Literal value ∷ ws) name rest e = absurd cc
plain_name_is (Text bytes ∷ ws) name rest e = absurd cc
plain_name_is (Mark kind ∷ ws) name rest e = absurd cc
plain_name_is (Name first ∷ ws) name rest e =
    let w = unless_ok (is_builtin first) _ (Ok (with_rest first ws)) (with_rest name rest) e in
    subst (λ (x : List ℕ × List Lexeme). (Name first ∷ ws ≡ Name x.0 ∷ x.1) × (is_builtin x.0 ≡ false)) (ok_is (with_rest first ws) (with_rest name rest) w.1) (refl, w.0)

pub plain_name_again : (name : List ℕ) (rest : List Lexeme) → is_builtin name ≡ false → plain_name (Name name ∷ rest) ≡ Ok (name, rest)
unfolding plain_name
plain_name_again name rest plain = rw plain refl
