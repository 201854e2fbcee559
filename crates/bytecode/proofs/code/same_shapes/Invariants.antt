use Rattle.std.proofs.Common.{◌≡◌, take}
use Rattle.bytecode.proofs.code.same_shapes.Given as goal

abbrev pub invariant-loop-i : goal.invariant-loop-i
invariant-loop-i l = take l.i l.left ≡ take l.i l.right
