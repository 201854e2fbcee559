-- Numbers that are followed only to a limit.
use Rattle.std.proofs.Common.{◌≡◌, ℕ, ◌+◌, ◌*◌, ◌<◌, ◌⊎◌, List, [], ◌∷◌, ◌++◌, min, length, take, get_or, inl, inr, refl, sym, ap, ◌∙◌, arith}
use Rattle.std.proofs.lemmas.List.{take_more}
use Rattle.parser_base.specs.Lexemes.{digit_of, number_after}

number_after-push : (base n : ℕ) (digits : List ℕ) (digit : ℕ) → number_after base n (digits ++ digit ∷ []) ≡ number_after base n digits * base + digit_of digit
number_after-push base n [] digit = refl
number_after-push base n (first ∷ rest) digit = number_after-push base (n * base + digit_of first) rest digit

limited : (limit base number digit : ℕ) → (base ≡ 10) ⊎ (base ≡ 16) → min (min number (limit + 1) * base + digit) (limit + 1) ≡ min (number * base + digit) (limit + 1)
limited limit base number digit (inl is) = rw is (omega arith)
limited limit base number digit (inr is) = rw is (omega arith)

-- one more digit
pub limited_digit : (limit base : ℕ) (digits : List ℕ) (i digit value next : ℕ) → (base ≡ 10) ⊎ (base ≡ 16) → i < length digits → digit ≡ digit_of (get_or digits i 0)
    → value ≡ min (number_after base 0 (take i digits)) (limit + 1) → next ≡ min (value * base + digit) (limit + 1)
    → next ≡ min (number_after base 0 (take (i + 1) digits)) (limit + 1)
limited_digit limit base digits i digit value next in_base lt is so_far made =
    let more = take_more digits i 0 lt in
    let e = number_after-push base 0 (take i digits) (get_or digits i 0) in
    let l = limited limit base (number_after base 0 (take i digits)) digit in_base in
    let all : number_after base 0 (take (i + 1) digits) ≡ number_after base 0 (take i digits) * base + digit = ap (number_after base 0) more ∙ e ∙ ap (λ (d : ℕ). number_after base 0 (take i digits) * base + d) (sym is) in
    made ∙ ap (λ (v : ℕ). min (v * base + digit) (limit + 1)) so_far ∙ l ∙ ap (λ (v : ℕ). min v (limit + 1)) (sym all)
