use Rattle.std.proofs.Common.{◌-◌, ◌≡◌, length}
use Rattle.sleep_queue.specs.Linked.{link}
use Rattle.sleep_queue.proofs.Counts.{IsCounted}
use Rattle.sleep_queue.proofs.queues.count_from.Given as goal

abbrev pub invariant-loop-next : goal.invariant-loop-next
invariant-loop-next l = record {
  counted : IsCounted l.slots.slots l.row l.last l.count;
  next : l.next ≡ link l.rows.next l.last;
}

abbrev pub decreases-loop-next : goal.decreases-loop-next
decreases-loop-next l = length l.slots.slots - l.count
