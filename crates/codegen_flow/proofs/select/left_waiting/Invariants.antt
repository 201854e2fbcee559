use Rattle.std.proofs.Common.{◌≡◌, ◌++◌, drop}
use Rattle.codegen_flow.specs.Waits.{continues}
use Rattle.codegen_flow.proofs.select.left_waiting.Given as goal

-- those that were seen, and those of what is left
abbrev pub invariant-loop-wait : goal.invariant-loop-wait
invariant-loop-wait l = l.left.items ++ continues (drop l.wait-index l.waits) ≡ continues l.waits
