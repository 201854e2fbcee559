-- What is in a list from an index on.
use Rattle.std.proofs.Common.{◌≡◌, ℕ, zero, suc, ◌+◌, Bool, true, false, cond, List, [], ◌∷◌, ◌++◌, length, drop, Some, IsTrue, refl, sym, ap, ◌∙◌, subst, arith, slice_get}
use Rattle.std.proofs.lemmas.List.{drop-drop}
use Rattle.std.proofs.Math.Seq.{drop-append_seam}

-- these are in the list from an index on
abbrev pub Stand : {A : Type 0} → List A → ℕ → List A → Type 0
Stand xs p [] = Unit {0}
Stand xs p (y ∷ ys) = (slice_get xs p ≡ Some y) × Stand xs (p + 1) ys

front : {A : Type 0} (xs : List A) (p : ℕ) (a b : List A) → Stand xs p (a ++ b) → Stand xs p a
front xs p [] b h = tt
front xs p (y ∷ a) b h = (h.0, front xs (p + 1) a b h.1)

back : {A : Type 0} (xs : List A) (p : ℕ) (a b : List A) (q : ℕ) → q ≡ p + length a → Stand xs p (a ++ b) → Stand xs q b
back xs p [] b q e h = let z : p ≡ q = omega (arith, e) in subst (λ n. Stand xs n b) z h
back xs p (y ∷ a) b q e h = back xs (p + 1) a b q (omega (arith, e)) h.1

-- the first of two parts, and the second
pub split : {A : Type 0} (xs : List A) (p : ℕ) (a b : List A) (q : ℕ) → q ≡ p + length a → Stand xs p (a ++ b) → Stand xs p a × Stand xs q b
split xs p a b q e h = (front xs p a b h, back xs p a b q e h)

-- a part that is there on a condition
pub stand_if : {A : Type 0} (xs : List A) (p : ℕ) (b : Bool) (ys : List A) → IsTrue b → Stand xs p (cond b ys []) → Stand xs p ys
stand_if xs p b ys e h = subst (λ t. Stand xs p (cond t ys [])) e h

pub length_if : {A : Type 0} (b : Bool) (ys : List A) (n : ℕ) → length ys ≡ n → length (cond b ys []) ≡ cond b n 0
length_if true ys n e = e
length_if false ys n e = refl

-- ---- what is left of a list from an index on

-- the first of what is left is at the index
pub first_left : {A : Type 0} (xs : List A) (place : ℕ) (x : A) (rest : List A) → drop place xs ≡ x ∷ rest → slice_get xs place ≡ Some x
first_left [] zero x rest left = cc
first_left [] (suc place) x rest left = cc
first_left (y ∷ ys) zero x rest left = cc
first_left (y ∷ ys) (suc place) x rest left = first_left ys place x rest left

-- what is left after a part
pub following : {A : Type 0} (xs : List A) (place : ℕ) (part rest : List A) → drop place xs ≡ part ++ rest → drop (place + length part) xs ≡ rest
following xs place part rest left = sym (drop-drop (length part) place xs) ∙ ap (drop (length part)) left ∙ drop-append_seam part rest

-- ---- a whole list

shifted : {A : Type 0} (x : A) (xs : List A) (p : ℕ) (ys : List A) → Stand xs p ys → Stand (x ∷ xs) (suc p) ys
shifted x xs p [] h = tt
shifted x xs p (y ∷ ys) h = let e : suc (p + 1) ≡ suc p + 1 = omega arith in (h.0, subst (λ n. Stand (x ∷ xs) n ys) e (shifted x xs (p + 1) ys h.1))

pub whole : {A : Type 0} (xs : List A) → Stand xs 0 xs
whole [] = tt
whole (x ∷ xs) = let e : suc 0 ≡ 0 + 1 = omega arith in (refl, subst (λ n. Stand (x ∷ xs) n xs) e (shifted x xs 0 xs (whole xs)))
