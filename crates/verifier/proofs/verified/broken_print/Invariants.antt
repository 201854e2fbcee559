use Rattle.std.proofs.Common.{◌≡◌, ◌<◌, ℕ, Some, slice_get}
use Rattle.bytecode.specs.Code.{PrintTable}
use Rattle.bytecode.specs.Rules.{IsShort}
use Rattle.verifier.proofs.verified.broken_print.Given as goal

abbrev pub invariant-loop-number : goal.invariant-loop-number
invariant-loop-number l = (q : ℕ) (table : PrintTable) → q < l.number → slice_get l.code.prints q ≡ Some table → IsShort table
