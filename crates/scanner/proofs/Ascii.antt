-- Letters and digits of ASCII.
use Rattle.std.proofs.lemmas.Bool.{cases_lt}
use Rattle.std.proofs.Common.{◌≡◌, ℕ, zero, suc, ◌<◌, Bool, true, false, ◌&&◌, ◌||◌, refl, ap, inl, inr, arith, subst}
use Rattle.std.specs.Char.{is_ascii_digit, is_ascii_alphabetic}
use Rattle.std.specs.Prelude.{◌==◌}
use Rattle.scanner.specs.Letters.{is_letter}
use Rattle.unicode.specs.GeneralCategory.{general_category, general_category_eq}
use Rattle.unicode.specs.GeneralCategoryGroup.{in_group}
use Rattle.unicode.specs.Rows.{value_in}
use Rattle.ucd_category.specs.GeneralCategoryRows.{general_category_rows}
use Rattle.ucd_category.specs.declared.GeneralCategory.TheVariants.{DecimalNumber}
use Rattle.ucd_category.specs.declared.GeneralCategoryGroup.TheVariants.{Letter}

abbrev same_bool : Bool → Bool → Bool
same_bool true b = b
same_bool false true = false
same_bool false false = true

-- the categories say of a character what ASCII says
agrees : ℕ → Bool
agrees c = same_bool (is_ascii_alphabetic c) (in_group Letter (general_category c)) && same_bool (is_ascii_digit c) (general_category_eq (general_category c) DecimalNumber)

all_below : (ℕ → Bool) → ℕ → Bool
all_below p zero = true
all_below p (suc n) = p n && all_below p n

ascii_agrees : all_below agrees 128 ≡ true
unfolding all_below agrees general_category value_in general_category_rows
ascii_agrees = refl

-- both hold
pub and-left : (a b : Bool) → a && b ≡ true → a ≡ true
and-left true b is = refl
and-left false b is = absurd cc

pub and-right : (a b : Bool) → a && b ≡ true → b ≡ true
and-right true b is = is
and-right false b is = absurd cc

below : (p : ℕ → Bool) (n c : ℕ) → all_below p n ≡ true → c < n → p c ≡ true
unfolding all_below
below p zero c all lt = absurd (omega arith)
below p (suc n) c all lt =
    elim (cases_lt c n) [
      | inl less ↦ below p n c (and-right (p n) (all_below p n) all) less
      | inr ge ↦ let same : n ≡ c = omega arith in subst (λ (x : ℕ). p x ≡ true) same (and-left (p n) (all_below p n) all)
    ]

same_is : (a b : Bool) → same_bool a b ≡ true → b ≡ a
same_is true b is = is
same_is false true is = absurd cc
same_is false false is = refl

both : (c : ℕ) → c < 128 → agrees c ≡ true
both c lt = below agrees 128 c ascii_agrees lt

pub letter_ascii : (c : ℕ) → c < 128 → in_group Letter (general_category c) ≡ is_ascii_alphabetic c
unfolding agrees
letter_ascii c lt = same_is (is_ascii_alphabetic c) (in_group Letter (general_category c)) (and-left _ _ (both c lt))

pub digit_ascii : (c : ℕ) → c < 128 → general_category_eq (general_category c) DecimalNumber ≡ is_ascii_digit c
unfolding agrees
digit_ascii c lt = same_is (is_ascii_digit c) (general_category_eq (general_category c) DecimalNumber) (and-right _ _ (both c lt))

pub is_letter_ascii : (c : ℕ) → c < 128 → is_letter c ≡ (c == 95) || is_ascii_alphabetic c
is_letter_ascii c lt = ap (λ (b : Bool). (c == 95) || b) (letter_ascii c lt)
