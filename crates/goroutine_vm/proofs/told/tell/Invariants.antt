use Rattle.std.proofs.Common.{◌≡◌, ◌++◌, drop, length}
use Rattle.bytecode.specs.Machine.{fitted}
use Rattle.goroutine_vm.proofs.told.tell.Given as goal

abbrev pub invariant-loop-index : goal.invariant-loop-index
invariant-loop-index l = record {
  words : l.told ++ fitted (drop l.index l.kinds) (drop l.index l.words) ≡ fitted l.kinds l.words;
  many : length l.told ≡ l.index;
}
