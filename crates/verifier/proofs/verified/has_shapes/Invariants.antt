use Rattle.std.proofs.Common.{◌≡◌, ◌<◌, ℕ, Some, length, slice_get}
use Rattle.bytecode.specs.declared.table.Clause.{Clause}
use Rattle.bytecode.specs.Effects.{clause_shape}
use Rattle.verifier.proofs.verified.has_shapes.Given as goal

abbrev pub invariant-loop-number : goal.invariant-loop-number
invariant-loop-number l = (n : ℕ) (x : Clause) → n < l.number → slice_get l.table.clauses n ≡ Some x → clause_shape x < length l.code.shapes
