use Rattle.std.proofs.Common.{◌≡◌, ◌+◌, length}
use Rattle.pauses.specs.Selects.{masked_from}
use Rattle.pauses.proofs.select.masked.Given as goal

abbrev pub invariant-loop-case : goal.invariant-loop-case
invariant-loop-case l = record {
  number : l.number ≡ 1 + length l.yielded;
  all : l.all.items ≡ masked_from l.mask 1 l.yielded;
}
