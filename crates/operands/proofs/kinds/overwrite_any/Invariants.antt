use Rattle.std.proofs.Common.{◌≡◌, ◌++◌, [], drop, length, take}
use Rattle.bytecode.specs.Machine.{fitted}
use Rattle.operands.proofs.kinds.overwrite_any.Given as goal

abbrev pub invariant-loop-index : goal.invariant-loop-index
invariant-loop-index l = record {
  same : length l.made ≡ length l.kinds;
  words : take l.index l.made ++ fitted (drop l.index l.kinds) [] ≡ take l.from l.fn.made ++ fitted (drop l.from l.kinds) [];
}
