use Rattle.std.proofs.Common.{◌≡◌, ◌<◌, ℕ, Some, slice_get}
use Rattle.bytecode.specs.Code.{SelectTable}
use Rattle.bytecode.specs.Rules.{IsSelect}
use Rattle.verifier.proofs.verified.broken_select.Given as goal

abbrev pub invariant-loop-number : goal.invariant-loop-number
invariant-loop-number l = (q : ℕ) (table : SelectTable) → q < l.number → slice_get l.code.selects q ≡ Some table → IsSelect l.code table
