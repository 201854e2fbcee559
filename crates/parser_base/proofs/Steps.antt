-- Readings one after the other.
use Rattle.std.proofs.Common.{◌≡◌, ℕ, ◌<◌, ◌≤◌, Bool, true, false, cond, max, length, List, [], ◌∷◌, Result, Ok, Err, nat_le, ◌⊎◌, inl, inr, refl, ap, ◌∙◌, subst, sym, arith}
use Rattle.std.proofs.lemmas.Bool.{leb-false}
use Rattle.syntax.specs.Measures.{Listing, Entries, entries, highest}
use Rattle.parser_base.specs.Lexemes.{Lexeme}
use Rattle.parser_base.specs.Reading.{Refusal, TooDeep, TooMany, Reading, ◌>>=◌, needing}
use Rattle.parser_base.proofs.Marks.{when_ok, ok_is}
use Rattle.parser_base.proofs.ListLaws.{AreFew, ReadBack, Found, High, Many, entries-le, ListOutcome, Found as AllFound, High as AllHigh, Many as AllMany, Full}

-- a part, and what is read after it
pub then_again : {A B : Type 0} (f : A × List Lexeme → Reading B) {read : Reading A} {x : A} {mid : List Lexeme} {y : B} {rest : List Lexeme} {part depth_left height depth_left' : ℕ} {longest longest' : Listing → ℕ} {most : ℕ}
    → ReadBack read x mid part depth_left longest most → (depth_left < part → depth_left' < height) → ((listing : Listing) → longest listing ≤ longest' listing)
    → (part ≤ depth_left → AreFew longest most → ReadBack (f (x, mid)) y rest height depth_left' longest' most) → ReadBack (read >>= f) y rest height depth_left' longest' most
then_again f {y = y} {rest = rest} {height = height} {depth_left' = depth_left'} {longest' = longest'} {most = most} (Found low few e) up more next = subst (λ (r : Reading _). ReadBack (r >>= f) y rest height depth_left' longest' most) (sym e) (next low few)
then_again f (High high e) up more next = High (up high) (rw e refl)
then_again f (Many listing many e) up more next = Many listing (omega (arith, more listing, many)) (rw e refl)

-- what is made of what was read
pub made_again : {A B : Type 0} {read : Reading A} {x : A} {rest : List Lexeme} {part depth_left height depth_left' : ℕ} {longest longest' : Listing → ℕ} {most : ℕ} (make : A → B)
    → ReadBack read x rest part depth_left longest most → (depth_left < part → depth_left' < height) → (part ≤ depth_left → height ≤ depth_left') → ((listing : Listing) → longest listing ≡ longest' listing)
    → ReadBack (read >>= λ found. Ok (make found.0, found.1)) (make x) rest height depth_left' longest' most
made_again make (Found low few e) up down same = Found (down low) (λ listing. omega (arith, few listing, same listing)) (rw e refl)
made_again make (High high e) up down same = High (up high) (rw e refl)
made_again make (Many listing many e) up down same = Many listing (omega (arith, same listing, many)) (rw e refl)

-- a list that may be longer than its limit
pub listed_outcome : {X : Type 0} {read : Reading (List X × Bool)} {xs : List X} {trailing : Bool} {rest : List Lexeme} {height depth_left : ℕ} {longest : Listing → ℕ} {most : ℕ}
    → ListOutcome read xs trailing rest height depth_left longest most most (TooMany Entries)
    → ReadBack read (xs, trailing) rest height depth_left (λ listing. max (entries listing (length xs)) (longest listing)) most
listed_outcome {xs = xs} (AllFound low few count e) = Found low (λ listing. omega (arith, few listing, entries-le listing (length xs))) e
listed_outcome (AllHigh high e) = High high e
listed_outcome (AllMany listing many e) = Many listing (omega (arith, many)) e
listed_outcome (Full count e) = Many Entries (omega (arith, count)) e

-- `ReadBack` for equal readings
pub read_as : {A : Type 0} {read read' : Reading A} {x : A} {rest : List Lexeme} {height depth_left : ℕ} {longest : Listing → ℕ} {most : ℕ} → read ≡ read' → ReadBack read' x rest height depth_left longest most → ReadBack read x rest height depth_left longest most
read_as same (Found low few e) = Found low few (same ∙ e)
read_as same (High high e) = High high (same ∙ e)
read_as same (Many listing many e) = Many listing many (same ∙ e)

-- what is found has the levels that it needs, and what has them not is too high
needed : {A : Type 0} (b : Bool) {read : Reading A} {x : A} {rest : List Lexeme} {height depth_left : ℕ} {longest : Listing → ℕ} {most : ℕ}
    → (b ≡ false → depth_left < height) → ReadBack read x rest height depth_left longest most → ReadBack (cond b read (Err TooDeep)) x rest height depth_left longest most
needed true high again = again
needed false high again = High (high refl) refl

pub needing_again : {A : Type 0} (least have : ℕ) {read : Reading A} {x : A} {rest : List Lexeme} {height depth_left : ℕ} {longest : Listing → ℕ} {most : ℕ}
    → (have < least → depth_left < height) → ReadBack read x rest height depth_left longest most → ReadBack (needing least have read) x rest height depth_left longest most
needing_again least have high again = needed (nat_le least have) (λ none. high (leb-false least have none)) again

pub needing_ok : {A : Type 0} (least depth_left : ℕ) (read : Result A Refusal) (y : A) → needing least depth_left read ≡ Ok y → read ≡ Ok y
needing_ok least depth_left read y e = (when_ok (nat_le least depth_left) TooDeep read y e).1

-- the highest of what has no height
pub highest_none : {X : Type 0} (xs : List X) → highest (λ x. 0) xs ≡ 0
highest_none [] = refl
highest_none (x ∷ xs) = omega (arith, highest_none xs)

-- ---- what is read is spelt so

-- what was read, and what follows it
abbrev pub gave : {A : Type 0} → A → List Lexeme → Reading A
gave x rest = Ok (x, rest)

-- what was read of some lexemes: it has them, is well-formed, and is within the limits
pub record Sound {A : Type 0} (words : A → List Lexeme → List Lexeme) (Is : A → Type 0) (height : A → ℕ) (depth_left : ℕ) (longest : Listing → A → ℕ) (most : ℕ) (ws : List Lexeme) (x : A) (rest : List Lexeme) : Type 0 where
  pub parts : ws ≡ words x rest
  pub is : Is x
  pub low : height x ≤ depth_left
  pub few : AreFew (λ listing. longest listing x) most

-- a part, and what was made of it
pub made_is : {A B : Type 0} (make : A → B) (read : Reading A) (y : B) (rest : List Lexeme) → (read >>= λ found. gave (make found.0) found.1) ≡ gave y rest → (x : A) × (read ≡ gave x rest) × (make x ≡ y)
made_is make (Ok (x, after)) y rest e =
    let same = ok_is (make x, after) (y, rest) e in
    (x, ap (λ (ws : List Lexeme). gave x ws) (ap (λ (p : _ × List Lexeme). p.1) same), ap (λ (p : _ × List Lexeme). p.0) same)
made_is make (Err refusal) y rest e = absurd cc

-- which of two was read
pub either : {A : Type 0} (b : Bool) (first second : Result A Refusal) (y : A) → cond b first second ≡ Ok y → ((b ≡ true) × (first ≡ Ok y)) ⊎ ((b ≡ false) × (second ≡ Ok y))
either true first second y e = inl (refl, e)
either false first second y e = inr (refl, e)
