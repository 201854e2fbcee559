use Rattle.std.proofs.Common.{◌≡◌, length}
use Rattle.codegen_flow.specs.Waits.{filled}
use Rattle.codegen_flow.proofs.waits.fill.Given as goal

-- what is left comes to what all come to
abbrev pub invariant-loop-wait : goal.invariant-loop-wait
invariant-loop-wait l = filled l.left l.leave l.again l.code.items ≡ filled l.waits l.leave l.again l.initial.code.items

abbrev pub decreases-loop-wait : goal.decreases-loop-wait
decreases-loop-wait l = length l.left
