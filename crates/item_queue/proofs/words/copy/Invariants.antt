use Rattle.std.proofs.Common.{◌≡◌, length}
use Rattle.std.specs.Prelude.{take, drop}
use Rattle.item_queue.proofs.words.copy.Given as goal

abbrev pub invariant-loop-i : goal.invariant-loop-i
invariant-loop-i l = record {
  long : length l.room ≡ length l.fn.room;
  front : take l.i l.room ≡ take l.i (drop l.from l.words.items);
}
