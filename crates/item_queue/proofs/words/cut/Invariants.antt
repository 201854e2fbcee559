use Rattle.std.proofs.Common.{◌≡◌, ◌≤◌, ◌+◌}
use Rattle.std.specs.Prelude.{drop}
use Rattle.std.specs.VecDeque.{deque_len}
use Rattle.item_queue.proofs.words.cut.Given as goal

abbrev pub invariant-loop-done : goal.invariant-loop-done
invariant-loop-done l = record {
  items : l.words.items ≡ drop l._done l.fn.words.items;
  len : l._done ≤ deque_len l.fn.words → deque_len l.words + l._done ≡ deque_len l.fn.words;
}
