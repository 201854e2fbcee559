use Rattle.std.proofs.Common.{◌≡◌, ◌≤◌, ℕ, take, length}
use Rattle.type_table.proofs.scope.leave.Given as goal

-- what is left is a prefix of those before, and no fewer than are to be left
abbrev pub invariant-loop-visible : goal.invariant-loop-visible
invariant-loop-visible l =
    ((n : ℕ) × (l.visible.entries.items ≡ take n l.initial.visible.entries.items) × (l.count ≤ n))
    × (l.visible.words ≡ l.initial.visible.words)

abbrev pub decreases-loop-visible : goal.decreases-loop-visible
decreases-loop-visible l = length l.visible.entries.items
