use Rattle.std.proofs.Common.{◌≡◌, ◌<◌, ℕ, Some, slice_get}
use Rattle.bytecode.specs.declared.instr.WordKind.{WordKind}
use Rattle.bytecode.specs.Rules.{IsThere}
use Rattle.verifier.proofs.verified.are_there.Given as goal

abbrev pub invariant-loop-number : goal.invariant-loop-number
invariant-loop-number l = (n : ℕ) (k : WordKind) → n < l.number → slice_get l.kinds n ≡ Some k → IsThere l.code k
