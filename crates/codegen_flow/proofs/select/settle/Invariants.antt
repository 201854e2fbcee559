use Rattle.std.proofs.Common.{◌≡◌, length}
use Rattle.codegen_flow.specs.Waits.{settled}
use Rattle.codegen_flow.proofs.select.settle.Given as goal

-- what is left comes to what all come to
abbrev pub invariant-loop-wait : goal.invariant-loop-wait
invariant-loop-wait l = settled l.left l.stop l.code.items ≡ settled l.waits l.stop l.initial.code.items

abbrev pub decreases-loop-wait : goal.decreases-loop-wait
decreases-loop-wait l = length l.left
