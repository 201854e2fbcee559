use Rattle.std.proofs.Common.{◌≡◌, ◌++◌, drop, length, take}
use Rattle.bytecode.specs.Machine.{fitted}
use Rattle.operands.proofs.kinds.overwrite.Given as goal

abbrev pub invariant-loop-index : goal.invariant-loop-index
invariant-loop-index l = record {
  same : length l.made ≡ length l.kinds;
  words : take l.index l.made ++ fitted (drop l.index l.kinds) (drop l.index l.words) ≡ fitted l.kinds l.words;
}
