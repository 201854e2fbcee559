use Rattle.std.proofs.Common.{◌≡◌, ◌+◌, ◌++◌}
use Rattle.std.specs.Prelude.{take}
use Rattle.std.specs.VecDeque.{deque_len, deque_capacity}
use Rattle.item_queue.proofs.words.append.Given as goal

abbrev pub invariant-loop-i : goal.invariant-loop-i
invariant-loop-i l = record {
  items : l.words.items ≡ l.fn.words.items ++ take l.i l.more;
  len : deque_len l.words ≡ deque_len l.fn.words + l.i;
  room : deque_capacity l.words ≡ deque_capacity l.fn.words;
}
