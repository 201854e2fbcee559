use Rattle.std.proofs.Common.{◌≡◌, ◌<◌, ℕ, Some, slice_get}
use Rattle.bytecode.specs.Effects.{targets_in}
use Rattle.verifier_base.proofs.scan.are_after.Given as goal

abbrev pub invariant-loop-number : goal.invariant-loop-number
invariant-loop-number l = (k to : ℕ) → k < l.number → slice_get (targets_in (slice_get l.code.selects l.q)) k ≡ Some to → l.place < to
