use Rattle.std.proofs.Common.{◌≡◌, ◌≤◌, length}
use Rattle.workers.proofs.work_queues.apart.Given as goal

-- those of each worker so far
abbrev pub invariant-loop-worker : goal.invariant-loop-worker
invariant-loop-worker g l = record {
  each : length l.all.items ≡ l._worker;
  bound : l._worker ≤ l.count;
}
