use Rattle.std.proofs.Common.{◌≡◌, ℕ, ◌<◌, Some, true}
use Rattle.slot_index.specs.Numbers.{number_at}
use Rattle.turn_rule.specs.Schedule.{floor_above}
use Rattle.awake_rows.specs.Living.{row_in}
use Rattle.awake_rows.proofs.turns.blocker.Given as goal

abbrev pub invariant-loop-slot : goal.invariant-loop-slot
invariant-loop-slot l = (t n : ℕ) → t < l.slot → number_at l.slots t ≡ Some n → floor_above l.key n (row_in l.items t) ≡ true
