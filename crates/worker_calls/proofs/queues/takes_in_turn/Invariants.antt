use Rattle.run_queue.specs.Passes.{IsPutOf, IsTakeOf}
use Rattle.worker_calls.proofs.queues.takes_in_turn.Given as goal

-- the passes are of this queue
abbrev pub invariant-loop-round : goal.invariant-loop-round
invariant-loop-round g l = IsPutOf l.queue l.puts × IsTakeOf l.queue l.one × IsTakeOf l.queue l.other
