use Rattle.std.proofs.Common.{◌≡◌, ℕ, ◌+◌, ◌<◌, [], ◌++◌, drop, take}
use Rattle.std.specs.Prelude.{slice_index_or}
use Rattle.workers.specs.Queues.{others_of, own_queues}
use Rattle.workers.proofs.work_queues.WorkQueues.of_all.Given as goal

-- each worker so far has its stealers
abbrev pub invariant-loop-worker : goal.invariant-loop-worker
invariant-loop-worker g l = record {
  own : own_queues l.all.items ≡ own_queues l.initial.all.items;
  team : (k : ℕ) → k < l.worker → slice_index_or (others_of l.all.items) k [] ≡ drop (k + 1) (own_queues l.initial.all.items) ++ take k (own_queues l.initial.all.items);
}
