-- The test of plans holds of plans, and of nothing else.
use Rattle.std.proofs.Common.{◌≡◌, ℕ, ◌^◌, ◌<◌, nat_lt, Bool, true, false, ◌&&◌, not, List, [], ◌∷◌, ◌++◌, refl}
use Rattle.std.specs.List.{list_any}
use Rattle.std.proofs.lemmas.Bool.{and_from, and_parts, false≢true, lt-ltb, ltb-true, not-true, not_from_false}
use Rattle.pauses.specs.Files.{AreNumbers, ArePauses, IsChange, IsNumber, IsWay}
use Rattle.pauses.specs.Plans.{Change, Wait, Clause, Pause, is_rival}
use Rattle.pauses.specs.Tests.{are_numbers, are_pauses, is_change, is_number, is_pause, is_way}

number_is : (n : ℕ) → is_number n ≡ true → IsNumber n
number_is n h =
    let p = and_parts _ _ h in
    (ltb-true 0 n p.0, ltb-true n (10 ^ 18) p.1)

number_tests : (n : ℕ) → IsNumber n → is_number n ≡ true
number_tests n h = and_from _ _ (lt-ltb 0 n h.0) (lt-ltb n (10 ^ 18) h.1)

numbers_are : (ns : List ℕ) → are_numbers ns ≡ true → AreNumbers ns
numbers_are [] h = tt
numbers_are (n ∷ ns) h =
    let p = and_parts _ _ h in
    (number_is n p.0, numbers_are ns p.1)

numbers_test : (ns : List ℕ) → AreNumbers ns → are_numbers ns ≡ true
numbers_test [] h = refl
numbers_test (n ∷ ns) h = and_from _ _ (number_tests n h.0) (numbers_test ns h.1)

way_is : (way : List ℕ) → is_way way ≡ true → IsWay way
way_is [] h = absurd (false≢true h)
way_is (n ∷ ns) h = numbers_are (n ∷ ns) h

way_tests : (way : List ℕ) → IsWay way → is_way way ≡ true
way_tests [] h = absurd h
way_tests (n ∷ ns) h = numbers_test (n ∷ ns) h

change_is : (c : Change) → is_change c ≡ true → IsChange c
change_is (Wait ticks) h = number_is ticks h
change_is (Clause clause) h = number_is clause h

change_tests : (c : Change) → IsChange c → is_change c ≡ true
change_tests (Wait ticks) h = number_tests ticks h
change_tests (Clause clause) h = number_tests clause h

pub pauses_are : (before ps : List Pause) → are_pauses before ps ≡ true → ArePauses before ps
pauses_are before [] h = tt
pauses_are before (p ∷ ps) h =
    let parts = and_parts _ _ h in
    let one = and_parts _ _ parts.0 in
    let two = and_parts _ _ one.1 in
    let rest = and_parts _ _ parts.1 in
    ((way_is p.way one.0, number_is p.request two.0, change_is p.change two.1), not-true _ rest.0, pauses_are (before ++ p ∷ []) ps rest.1)

pub pauses_test : (before ps : List Pause) → ArePauses before ps → are_pauses before ps ≡ true
pauses_test before [] h = refl
pauses_test before (p ∷ ps) h =
    and_from _ _ (and_from _ _ (way_tests p.way h.0.0) (and_from _ _ (number_tests p.request h.0.1) (change_tests p.change h.0.2)))
    (and_from _ _ (not_from_false _ h.1) (pauses_test (before ++ p ∷ []) ps h.2))
