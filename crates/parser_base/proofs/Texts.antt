-- What a string stands for, a byte after another, as a loop reads it.
use Rattle.std.proofs.Common.{◌≡◌, ℕ, suc, ◌+◌, ◌<◌, ◌≤◌, Bool, true, false, List, [], ◌∷◌, ◌++◌, drop, drop-cons, get_or, length, refl, sym, ap, ◌∙◌, arith, append_assoc}
use Rattle.std.proofs.lemmas.Bool.{ne_eqb}
use Rattle.std.proofs.lemmas.List.{append-nil, drop_all}
use Rattle.parser_base.specs.Lexemes.{escape, text_after}

-- what is left begins with the next byte
begins : (escaped : Bool) (inside : List ℕ) (i : ℕ) → i < length inside → text_after escaped (drop i inside) ≡ text_after escaped (get_or inside i 0 ∷ drop (i + 1) inside)
begins escaped inside i lt =
    let more : i + 1 ≡ suc i = omega arith in
    let cut : drop i inside ≡ get_or inside i 0 ∷ drop (i + 1) inside = rw more (drop-cons inside i 0 lt) in
    ap (text_after escaped) cut

nothing : (escaped : Bool) → text_after escaped [] ≡ []
nothing true = refl
nothing false = refl

-- no byte is left
pub ends : (bytes inside : List ℕ) (escaped : Bool) (i : ℕ) (all : List ℕ) → length inside ≤ i → bytes ++ text_after escaped (drop i inside) ≡ all → bytes ≡ all
ends bytes inside escaped i all le so_far =
    let none : drop i inside ≡ [] = drop_all i inside le in
    sym (append-nil bytes) ∙ ap (λ (rest : List ℕ). bytes ++ rest) (sym (ap (text_after escaped) none ∙ nothing escaped)) ∙ so_far

-- at a quote
pub closes : (bytes inside : List ℕ) (i : ℕ) (all : List ℕ) → i < length inside → get_or inside i 0 ≡ 34 → bytes ++ text_after false (drop i inside) ≡ all → bytes ≡ all
closes bytes inside i all lt is so_far =
    let none : text_after false (drop i inside) ≡ [] = begins false inside i lt ∙ rw is refl in
    sym (append-nil bytes) ∙ ap (λ (rest : List ℕ). bytes ++ rest) (sym none) ∙ so_far

-- at a backslash
pub escapes : (bytes inside : List ℕ) (i : ℕ) (all : List ℕ) → i < length inside → get_or inside i 0 ≡ 92 → bytes ++ text_after false (drop i inside) ≡ all → bytes ++ text_after true (drop (i + 1) inside) ≡ all
escapes bytes inside i all lt is so_far =
    let next : text_after false (drop i inside) ≡ text_after true (drop (i + 1) inside) = begins false inside i lt ∙ rw is refl in
    ap (λ (rest : List ℕ). bytes ++ rest) (sym next) ∙ so_far

-- after a backslash
pub escaped_next : (bytes inside : List ℕ) (i : ℕ) (all : List ℕ) → i < length inside → bytes ++ text_after true (drop i inside) ≡ all → (bytes ++ escape (get_or inside i 0) ∷ []) ++ text_after false (drop (i + 1) inside) ≡ all
escaped_next bytes inside i all lt so_far =
    append_assoc bytes (escape (get_or inside i 0) ∷ []) (text_after false (drop (i + 1) inside)) ∙ ap (λ (rest : List ℕ). bytes ++ rest) (sym (begins true inside i lt)) ∙ so_far

-- at any other byte
pub plain_next : (bytes inside : List ℕ) (i : ℕ) (all : List ℕ) → i < length inside → (get_or inside i 0 ≡ 34 → ⊥) → (get_or inside i 0 ≡ 92 → ⊥) → bytes ++ text_after false (drop i inside) ≡ all → (bytes ++ get_or inside i 0 ∷ []) ++ text_after false (drop (i + 1) inside) ≡ all
plain_next bytes inside i all lt quote backslash so_far =
    let next : text_after false (drop i inside) ≡ get_or inside i 0 ∷ text_after false (drop (i + 1) inside) = begins false inside i lt ∙ rw (ne_eqb _ _ quote, ne_eqb _ _ backslash) refl in
    append_assoc bytes (get_or inside i 0 ∷ []) (text_after false (drop (i + 1) inside)) ∙ ap (λ (rest : List ℕ). bytes ++ rest) (sym next) ∙ so_far
