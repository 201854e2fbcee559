use Rattle.std.proofs.Common.{◌≡◌, ◌++◌, drop, take}
use Rattle.workers.specs.Queues.{others_of, own_queues, queues_of}
use Rattle.workers.proofs.work_queues.add_stealers.Given as goal

-- one of each queue so far
abbrev pub invariant-loop-worker : goal.invariant-loop-worker
invariant-loop-worker g l = record {
  own : own_queues l.all.items ≡ own_queues l.initial.all.items;
  others : others_of l.all.items ≡ others_of l.initial.all.items;
  stealers : queues_of l.stealers.items ≡ queues_of l.initial.stealers.items ++ drop l.from (take l.worker (own_queues l.initial.all.items));
}
