use Rattle.std.proofs.Common.{◌≡◌, ◌+◌, ◌-◌}
use Rattle.channel_core.proofs.rows.add_rows.Given as goal

abbrev pub invariant-loop-queues : goal.invariant-loop-queues
invariant-loop-queues l = l.queues.waiting ≡ l.fn.queues.waiting

abbrev pub decreases-loop-queues : goal.decreases-loop-queues
decreases-loop-queues l = l.row + 1 - l.queues.rows
