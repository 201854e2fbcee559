-- The order of keys as numbers of 128 bits.
use Rattle.std.proofs.Common.{◌≡◌, ℕ, ◌+◌, ◌*◌, ◌<◌, ◌≤◌, ◌^◌, true, false, sym, ◌∙◌, inl, inr, arith}
use Rattle.std.specs.Prelude.{nat_lt}
use Rattle.std.proofs.lemmas.Bool.Decides.{nat_tests}
use Rattle.std.proofs.lemmas.Bool.{cases_eq, cases_lt}
use Rattle.logical_clock.specs.declared.key.Key.{Key}
use Rattle.logical_clock.specs.Order.{is_before}

true_lt : (a b : ℕ) → a < b → nat_lt a b ≡ true
true_lt a b h = grind (arith, nat_tests)

false_lt : (a b : ℕ) → b ≤ a → nat_lt a b ≡ false
false_lt a b h = grind (arith, nat_tests)

before : (a b : Key) → a.clock < b.clock → is_before a b ≡ true
before a b h = grind (arith, nat_tests)

after : (a b : Key) → b.clock < a.clock → is_before a b ≡ false
after a b h = grind (arith, nat_tests)

before_same : (a b : Key) → a.clock ≡ b.clock → a.number < b.number → is_before a b ≡ true
before_same a b e h = grind (arith, nat_tests)

after_same : (a b : Key) → a.clock ≡ b.clock → b.number ≤ a.number → is_before a b ≡ false
after_same a b e h = grind (arith, nat_tests)

pub rank_order : (a b : Key) → a.number < 2 ^ 64 → b.number < 2 ^ 64 → nat_lt (a.clock * 2 ^ 64 + a.number) (b.clock * 2 ^ 64 + b.number) ≡ is_before a b
rank_order a b al bl =
    elim (cases_lt a.clock b.clock) [
      | inl lt ↦ true_lt (a.clock * 2 ^ 64 + a.number) (b.clock * 2 ^ 64 + b.number) (omega arith) ∙ sym (before a b lt)
      | inr ge ↦ elim (cases_eq a.clock b.clock) [
        | inl e ↦ elim (cases_lt a.number b.number) [
          | inl lt ↦ true_lt (a.clock * 2 ^ 64 + a.number) (b.clock * 2 ^ 64 + b.number) (omega arith) ∙ sym (before_same a b e lt)
          | inr le ↦ false_lt (a.clock * 2 ^ 64 + a.number) (b.clock * 2 ^ 64 + b.number) (omega arith) ∙ sym (after_same a b e le)
        ]
        | inr ne ↦ false_lt (a.clock * 2 ^ 64 + a.number) (b.clock * 2 ^ 64 + b.number) (omega arith) ∙ sym (after a b (omega arith))
      ]
    ]
