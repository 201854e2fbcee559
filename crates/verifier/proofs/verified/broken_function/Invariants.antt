use Rattle.std.proofs.Common.{◌≡◌, ◌<◌, ℕ, Some, slice_get}
use Rattle.bytecode.specs.Code.{Function}
use Rattle.bytecode.specs.Rules.{Holds}
use Rattle.verifier.proofs.verified.broken_function.Given as goal

abbrev pub invariant-loop-number : goal.invariant-loop-number
invariant-loop-number l = (g : ℕ) (f : Function) → g < l.number → slice_get l.code.functions g ≡ Some f → Holds l.code f
