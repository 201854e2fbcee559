use Rattle.std.proofs.Common.{◌≡◌, ℕ, Some, slice_get}
use Rattle.checker_declaration.proofs.wide.unknown.Given as goal

-- none is known
abbrev pub invariant-loop-number : goal.invariant-loop-number
invariant-loop-number l = (s w : ℕ) → slice_get l.known.items s ≡ Some (Some w) → ⊥
