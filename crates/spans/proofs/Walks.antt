-- A walk over a list goes on by one entry.
use Rattle.std.proofs.Common.{◌≡◌, ℕ, suc, ◌+◌, ◌*◌, ◌<◌, ◌≤◌, List, ◌∷◌, ◌++◌, drop, get_or, length, map, sum_by, sym, subst, arith, append_assoc, drop-cons}
use Rattle.std.proofs.lemmas.List.Sums.{sum_by-cons}
use denote.Param.Weighed.{most, at_most}

-- the entry's tokens, as many as it has, are before the rest
pub next_count : {A : Type 0} (step : A → ℕ) (first : A) (rest : List A) (count more total : ℕ) → more ≡ step first
    → count + sum_by step (first ∷ rest) ≡ total → count + more + sum_by step rest ≡ total
next_count step first rest count more total same whole = omega (arith, sum_by-cons step first rest)

-- the nodes of the entry are before those of the rest, which begins after it
pub next_spans : {A : Type 0} (spans : ℕ → List A) (before one total now : List A) (from to : ℕ) → now ≡ before ++ one → to ≡ from
    → before ++ (one ++ spans from) ≡ total → now ++ spans to ≡ total
next_spans spans before one total now from to added there whole = rw (added, there, append_assoc) whole

-- the entry at an index of a list ends no later than the whole
pub ends_within : {A B : Type 0} (step : B → ℕ) (of : A → B) (all : List A) (place : ℕ) (one : A) (count total : ℕ) → one ≡ get_or all place one → place < length all
    → count + sum_by step (map of (drop place all)) ≡ total → count + step (of one) ≤ total
ends_within step of all place one count total is below whole =
    let cut : drop place all ≡ one ∷ drop (suc place) all = rw is (drop-cons all place _ below) in
    omega (arith, rw cut at whole, sum_by-cons step (of one) (map of (drop (suc place) all)))

-- an entry of a list is no deeper than the list
pub falls_within : {X : Type 0} (depth : X → ℕ) (all : List X) (place : ℕ) (one : X) (times less rank t : ℕ) → one ≡ get_or all place one → place < length all
    → times * most depth all + rank ≡ t → less < rank → times * depth one + less < t
falls_within depth all place one times less rank t is below measure smaller =
    let deep : depth one ≤ most depth all = subst (λ x. depth x ≤ most depth all) (sym is) (at_most depth all place one below) in
    grind arith
