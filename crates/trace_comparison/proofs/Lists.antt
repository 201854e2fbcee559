-- Lists, by their elements.
use Rattle.std.proofs.Common.{◌≡◌, ◌≢◌, ℕ, ◌+◌, ◌<◌, ◌≤◌, suc, zero, List, [], ◌∷◌, ◌++◌, length, take, drop, Some, refl, sym, ap, subst, ◌∙◌, arith, ⊎_elim, length-take}
use Rattle.std.specs.List.{slice_get}
use Rattle.std.proofs.lemmas.List.{take_all}
use Rattle.std.proofs.lemmas.Bool.{cases_lt}

pub slice_get_at : {X : Type 0} (xs : List X) (x : X) (ys : List X) → slice_get (xs ++ x ∷ ys) (length xs) ≡ Some x
slice_get_at [] x ys = refl
slice_get_at (z ∷ xs) x ys = slice_get_at xs x ys

-- a list around one of its elements
pub around : {X : Type 0} (xs : List X) (i : ℕ) (x : X) → slice_get xs i ≡ Some x → xs ≡ take i xs ++ x ∷ drop (suc i) xs
around [] i x is = cc
around (y ∷ xs) zero x is = cc
around (y ∷ xs) (suc i) x is = ap (λ zs. y ∷ zs) (around xs i x is)

pub slice_get-take : {X : Type 0} (xs : List X) (n k : ℕ) → k < n → slice_get (take n xs) k ≡ slice_get xs k
slice_get-take xs zero k l = absurd (omega arith)
slice_get-take [] (suc n) k l = refl
slice_get-take (x ∷ xs) (suc n) zero l = refl
slice_get-take (x ∷ xs) (suc n) (suc k) l = slice_get-take xs n k (omega arith)

pub slice_get-append_left : {X : Type 0} (xs ys : List X) (k : ℕ) → k < length xs → slice_get (xs ++ ys) k ≡ slice_get xs k
slice_get-append_left [] ys k l = absurd (omega arith)
slice_get-append_left (x ∷ xs) ys zero l = refl
slice_get-append_left (x ∷ xs) ys (suc k) l = slice_get-append_left xs ys k (omega arith)

-- a list begins with these elements and the one after them
pub front_more : {X : Type 0} (front all : List X) (x : X) → take (length front) all ≡ front → slice_get all (length front) ≡ Some x
    → take (length (front ++ x ∷ [])) all ≡ front ++ x ∷ []
front_more [] [] x begins next = cc
front_more [] (y ∷ all) x begins next = let e : y ≡ x = cc in ap (λ z. z ∷ []) e
front_more (z ∷ front) [] x begins next = cc
front_more (z ∷ front) (y ∷ all) x begins next =
    let e : y ≡ z = cc in
    let rest : take (length front) all ≡ front = cc in
    let more = front_more front all x rest next in
    cc

-- two lists that begin with each other are the same
pub same_fronts : {X : Type 0} (xs ys : List X) → take (length xs) ys ≡ xs → take (length ys) xs ≡ ys → xs ≡ ys
same_fronts xs ys a b =
    let m : length xs ≤ length ys = omega (arith, length-take (length xs) ys, ap length a) in
    sym (take_all (length ys) xs m) ∙ b

-- what differs from a list that begins with these elements comes after them
pub after_front : {X : Type 0} (front all : List X) (k : ℕ) → take (length front) all ≡ front → (slice_get all k ≢ slice_get front k) → length front ≤ k
after_front front all k begins other =
    ⊎_elim (λ l. absurd (other (sym (slice_get-take all (length front) k l) ∙ ap (λ zs. slice_get zs k) begins))) (λ m. m) (cases_lt k (length front))

go : {X : Type 0} (xs ys : List X) (i : ℕ) (x : X) → take i xs ≡ take i ys → slice_get xs i ≡ Some x → slice_get ys i ≡ Some x → take (suc i) xs ≡ take (suc i) ys
go [] ys i x same a b = cc
go (y ∷ xs) [] i x same a b = cc
go (y ∷ xs) (z ∷ ys) zero x same a b = let e : y ≡ z = cc in ap (λ w. w ∷ []) e
go (y ∷ xs) (z ∷ ys) (suc i) x same a b =
    let e : y ≡ z = cc in
    let rest : take i xs ≡ take i ys = cc in
    let more = go xs ys i x rest a b in
    cc

-- two lists that are the same up to an element and have the same one there
pub take_one_more : {X : Type 0} (xs ys : List X) (i : ℕ) (x : X) → take i xs ≡ take i ys → slice_get xs i ≡ Some x → slice_get ys i ≡ Some x → take (i + 1) xs ≡ take (i + 1) ys
take_one_more xs ys i x same a b =
    let next : suc i ≡ i + 1 = omega arith in
    subst (λ n. take n xs ≡ take n ys) next (go xs ys i x same a b)

pub some_there : {X : Type 0} (xs : List X) (n : ℕ) → n < length xs → (x : X) × (slice_get xs n ≡ Some x)
some_there [] n l = absurd (omega arith)
some_there (x ∷ xs) zero l = (x, refl)
some_there (x ∷ xs) (suc n) l = some_there xs n (omega arith)
