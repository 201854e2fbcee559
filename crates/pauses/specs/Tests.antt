-- The tests of what `Files` calls a number, a way, a change and a plan.
use Rattle.std.specs.Prelude.{ℕ, ◌^◌, nat_lt, Bool, true, false, ◌&&◌, not, List, [], ◌∷◌, ◌++◌}
use Rattle.std.specs.List.{list_any}
use Rattle.pauses.specs.Plans.{Change, Wait, Clause, Pause, is_rival}

abbrev pub is_number : ℕ → Bool
is_number n = nat_lt 0 n && nat_lt n (10 ^ 18)

abbrev pub are_numbers : List ℕ → Bool
are_numbers [] = true
are_numbers (n ∷ ns) = is_number n && are_numbers ns

abbrev pub is_way : List ℕ → Bool
is_way [] = false
is_way (n ∷ ns) = are_numbers (n ∷ ns)

abbrev pub is_change : Change → Bool
is_change (Wait ticks) = is_number ticks
is_change (Clause clause) = is_number clause

abbrev pub is_pause : Pause → Bool
is_pause p = is_way p.way && (is_number p.request && is_change p.change)

abbrev pub are_pauses : (before : List Pause) → List Pause → Bool
are_pauses before [] = true
are_pauses before (p ∷ ps) = is_pause p && (not (list_any (is_rival p) before) && are_pauses (before ++ p ∷ []) ps)
