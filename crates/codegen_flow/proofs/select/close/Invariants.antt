use Rattle.std.proofs.Common.{◌≡◌, ◌≤◌, length}
use Rattle.codegen_flow.specs.Closed.{closed}
use Rattle.codegen_flow.proofs.select.close.Given as goal

-- what is left comes to what all come to, and no instruction is added
abbrev pub invariant-loop-held : goal.invariant-loop-held
invariant-loop-held l = record {
  closed : closed l.left l.there l.code.items ≡ closed l.all l.are_there l.initial.code.items;
  shorter : length l.code.items ≤ length l.initial.code.items;
}

abbrev pub decreases-loop-held : goal.decreases-loop-held
decreases-loop-held l = length l.left
