-- Lists of lines in order.
use Rattle.std.proofs.Common.{◌≡◌, ℕ, suc, ◌-◌, ◌≤◌, ◌<◌, true, List, [], ◌∷◌, length, get_or, map, refl, sym, ap, ap₂, ◌∙◌, arith}
use Rattle.std.specs.Cmp.Lexicographic.{bytes_decides, nat_list_cmp_total, slice_cmp, texts_ties}
use Rattle.std.specs.List.{sum_by}
use Rattle.std.specs.List.Sorted.{IsPermutation, IsSortedByKey}
use Rattle.std.specs.Ordering.{is_eq, nat_cmp, ordering_index, ordering_reverse}
use Rattle.std.specs.declared.cmp.Ordering.{Ordering}
use Rattle.std.specs.declared.cmp.Ordering.TheVariants.{Less, Equal, Greater}
use Rattle.std.proofs.lemmas.List.Sorted.{searchable_from_sorted, sum_by-IsPermutation}
use Rattle.std.proofs.lemmas.List.Sums.{sum_by-cons}
use denote.Ref.{Bor}
use native.Mathlib.Numerals.{unary_clauses}

abbrev Line : Type 0
Line = Bor (List ℕ)

abbrev AreSorted : List Line → Type 0
AreSorted lines = IsSortedByKey (λ (l : Line). l.now) (slice_cmp nat_cmp) lines

-- however lines are weighed, both lists weigh the same
abbrev WeighTheSame : List Line → List Line → Type 0
WeighTheSame xs ys = (weight : List ℕ → ℕ) → sum_by (λ (l : Line). weight l.now) xs ≡ sum_by (λ (l : Line). weight l.now) ys

-- nothing is left of lines that each have `most` at least
nothing_left : (n : Line → ℕ) (most : ℕ) (xs : List Line) → ((i : ℕ) (d : Line) → i < length xs → most ≤ n (get_or xs i d)) → sum_by (λ x. most - n x) xs ≡ 0
nothing_left n most [] all = refl
nothing_left n most (x ∷ xs) all =
    let first : most ≤ n x = all 0 x (omega arith) in
    let rest = nothing_left n most xs (λ i d lt. all (suc i) d (omega (arith, lt))) in
    omega (arith, sum_by-cons (λ x. most - n x) x xs, rest, first)

same_as_itself : (x : List ℕ) → slice_cmp nat_cmp x x ≡ Equal
same_as_itself x = tied (slice_cmp nat_cmp x x) (sym (texts_ties x x) ∙ (bytes_decides x x).1 refl) where
  tied : (r : Ordering) → is_eq r ≡ true → r ≡ Equal
  tied Less e = absurd cc
  tied Equal e = refl
  tied Greater e = absurd cc

-- the first of sorted lines is not after a line that is among them
not_after : (x : Line) (xs : List Line) (y : Line) (ys : List Line) → AreSorted (y ∷ ys) → WeighTheSame (x ∷ xs) (y ∷ ys) → slice_cmp nat_cmp y.now x.now ≡ Greater → ⊥
not_after x xs y ys sorted same after =
    let rank : Line → ℕ = λ z. ordering_index (slice_cmp nat_cmp z.now x.now) in
    let rises = searchable_from_sorted nat_list_cmp_total (λ (z : Line). z.now) (y ∷ ys) x.now sorted in
    let first : rank y ≡ 2 = ap ordering_index after in
    let itself : rank x ≡ 1 = ap ordering_index (same_as_itself x.now) in
    let none = nothing_left rank 2 (y ∷ ys) (λ i d lt. omega (arith, rises 0 i d (omega arith) lt, first)) in
    absurd (omega (arith, same (λ l. 2 - ordering_index (slice_cmp nat_cmp l x.now)), none, itself, sum_by-cons (λ z. 2 - rank z) x xs))

same_first : (x : Line) (xs : List Line) (y : Line) (ys : List Line) → AreSorted (x ∷ xs) → AreSorted (y ∷ ys) → WeighTheSame (x ∷ xs) (y ∷ ys) → x.now ≡ y.now
same_first x xs y ys sorted_x sorted_y same = by (slice_cmp nat_cmp x.now y.now) refl where
  by : (r : Ordering) → slice_cmp nat_cmp x.now y.now ≡ r → x.now ≡ y.now
  by Less is =
      absurd (not_after x xs y ys sorted_y same (nat_list_cmp_total.antisymm y.now x.now ∙ ap ordering_reverse is))
  by Equal is = (bytes_decides x.now y.now).0 (texts_ties x.now y.now ∙ ap is_eq is)
  by Greater is = absurd (not_after y ys x xs sorted_x (λ weight. sym (same weight)) is)

sorted_rest : (x : Line) (xs : List Line) → AreSorted (x ∷ xs) → AreSorted xs
sorted_rest x xs sorted k d low lt = simp unary_clauses (simp unary_clauses at (sorted (suc k) d (omega arith) (omega (arith, lt))))

-- sorted lists that weigh the same have the same lines
sorted_same : (xs ys : List Line) → AreSorted xs → AreSorted ys → WeighTheSame xs ys → map (λ (x : Line). x.now) xs ≡ map (λ (y : Line). y.now) ys
sorted_same [] [] sorted_x sorted_y same = refl
sorted_same [] (y ∷ ys) sorted_x sorted_y same = absurd (omega (arith, same (λ l. 1), sum_by-cons (λ (l : Line). 1) y ys))
sorted_same (x ∷ xs) [] sorted_x sorted_y same = absurd (omega (arith, same (λ l. 1), sum_by-cons (λ (l : Line). 1) x xs))
sorted_same (x ∷ xs) (y ∷ ys) sorted_x sorted_y same =
    let first = same_first x xs y ys sorted_x sorted_y same in
    let rest = sorted_same xs ys (sorted_rest x xs sorted_x) (sorted_rest y ys sorted_y)
    (λ weight. omega (arith, same weight, ap weight first, sum_by-cons (λ (l : Line). weight l.now) x xs, sum_by-cons (λ (l : Line). weight l.now) y ys)) in
    ap₂ (λ (a : List ℕ) (bs : List (List ℕ)). a ∷ bs) first rest

weighed : (weight : List ℕ → ℕ) (xs : List Line) → sum_by weight (map (λ (x : Line). x.now) xs) ≡ sum_by (λ (l : Line). weight l.now) xs
weighed weight [] = refl
weighed weight (x ∷ xs) =
    omega (arith, weighed weight xs, sum_by-cons weight x.now (map (λ (x : Line). x.now) xs), sum_by-cons (λ (l : Line). weight l.now) x xs)

-- the sorted lines of texts that have the same lines are the same
pub sorted_once : (one other : List (List ℕ)) (xs ys seen_xs seen_ys : List Line) → IsPermutation one (map (λ (x : Line). x.now) xs)
    → IsPermutation other (map (λ (y : Line). y.now) ys) → AreSorted xs → AreSorted ys → seen_xs ≡ xs → seen_ys ≡ ys → IsPermutation one other
    → map (λ (x : Line). x.now) seen_xs ≡ map (λ (y : Line). y.now) seen_ys
sorted_once one other xs ys seen_xs seen_ys a b sorted_x sorted_y is_x is_y same =
    let lines : List Line → List (List ℕ) = map (λ (x : Line). x.now) in
    let alike = sorted_same xs ys sorted_x sorted_y (λ weight.
    omega (
      arith,
      weighed weight xs,
      weighed weight ys,
      sum_by-IsPermutation weight one (lines xs) a,
      sum_by-IsPermutation weight other (lines ys) b,
      sum_by-IsPermutation weight one other same,
    )) in
    ap lines is_x ∙ (alike ∙ ap lines (sym is_y))
