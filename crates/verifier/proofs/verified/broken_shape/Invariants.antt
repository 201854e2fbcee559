use Rattle.std.proofs.Common.{◌≡◌, ◌<◌, ℕ, List, Some, slice_get}
use Rattle.bytecode.specs.declared.instr.WordKind.{WordKind}
use Rattle.bytecode.specs.Rules.{IsShaped}
use Rattle.verifier.proofs.verified.broken_shape.Given as goal

abbrev pub invariant-loop-number : goal.invariant-loop-number
invariant-loop-number l = (s : ℕ) (ks : List WordKind) → s < l.number → slice_get l.code.shapes s ≡ Some ks → IsShaped l.code ks
