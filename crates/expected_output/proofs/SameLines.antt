-- Lists of lines.
use Rattle.std.proofs.Common.{◌≡◌, ℕ, Bool, true, List, [], ◌∷◌, map, refl, sym, ap, ap₂, subst, ◌∙◌}
use Rattle.std.specs.Cmp.Lexicographic.{pointwise}
use Rattle.std.proofs.lemmas.Bool.{and_parts, false≢true}
use Rattle.std.proofs.lemmas.List.Sorted.{IsPermutation-map, IsPermutation-sym, IsPermutation-trans}
use Rattle.std.specs.List.Sorted.{IsPermutation}
use denote.Ref.{Bor}

-- lists of lines that are equal line by line have the same lines
pub same_lines : (equal : Bor (List ℕ) → Bor (List ℕ) → Bool) → ((a b : Bor (List ℕ)) → equal a b ≡ true → a.now ≡ b.now) → (xs ys : List (Bor (List ℕ)))
    → pointwise equal xs ys ≡ true → map (λ (x : Bor (List ℕ)). x.now) xs ≡ map (λ (y : Bor (List ℕ)). y.now) ys
same_lines equal e [] [] is = refl
same_lines equal e [] (y ∷ ys) is = absurd (false≢true is)
same_lines equal e (x ∷ xs) [] is = absurd (false≢true is)
same_lines equal e (x ∷ xs) (y ∷ ys) is =
    let parts = and_parts (equal x y) (pointwise equal xs ys) is in
    ap₂ (λ (a : List ℕ) (bs : List (List ℕ)). a ∷ bs) (e x y parts.0) (same_lines equal e xs ys parts.1)

-- lines that are moved are the same lines
pub moved_lines : (lines : List (List ℕ)) (before after : List (Bor (List ℕ))) → map (λ (x : Bor (List ℕ)). x.now) before ≡ lines → IsPermutation before after
    → IsPermutation lines (map (λ (x : Bor (List ℕ)). x.now) after)
moved_lines lines before after is moved =
    subst (λ (xs : List (List ℕ)). IsPermutation xs (map (λ (x : Bor (List ℕ)). x.now) after)) is (IsPermutation-map (λ (x : Bor (List ℕ)). x.now) before after moved)

-- texts whose sorted lines are the same have the same lines
pub sorted_alike : (one other : List (List ℕ)) (xs ys seen_xs seen_ys : List (Bor (List ℕ))) → IsPermutation one (map (λ (x : Bor (List ℕ)). x.now) xs)
    → IsPermutation other (map (λ (x : Bor (List ℕ)). x.now) ys) → seen_xs ≡ xs → seen_ys ≡ ys
    → map (λ (x : Bor (List ℕ)). x.now) seen_xs ≡ map (λ (x : Bor (List ℕ)). x.now) seen_ys → IsPermutation one other
sorted_alike one other xs ys seen_xs seen_ys a b e f is =
    let lines : List (Bor (List ℕ)) → List (List ℕ) = map (λ (x : Bor (List ℕ)). x.now) in
    let same : lines xs ≡ lines ys = ap lines (sym e) ∙ (is ∙ ap lines f) in
    IsPermutation-trans one (lines xs) other a (subst (λ (zs : List (List ℕ)). IsPermutation zs other) (sym same) (IsPermutation-sym other (lines ys) b))

-- lists of the same lines are equal line by line
pub alike_lines : (equal : Bor (List ℕ) → Bor (List ℕ) → Bool) → ((a b : Bor (List ℕ)) → a.now ≡ b.now → equal a b ≡ true) → (xs ys : List (Bor (List ℕ)))
    → map (λ (x : Bor (List ℕ)). x.now) xs ≡ map (λ (y : Bor (List ℕ)). y.now) ys → pointwise equal xs ys ≡ true
alike_lines equal e [] [] is = refl
alike_lines equal e [] (y ∷ ys) is = absurd cc
alike_lines equal e (x ∷ xs) [] is = absurd cc
alike_lines equal e (x ∷ xs) (y ∷ ys) is =
    let first : x.now ≡ y.now = cc in
    let rest : map (λ (x : Bor (List ℕ)). x.now) xs ≡ map (λ (y : Bor (List ℕ)). y.now) ys = cc in
    rw (e x y first, alike_lines equal e xs ys rest) refl
