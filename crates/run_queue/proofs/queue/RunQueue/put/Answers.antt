use Rattle.run_queue.proofs.Moves.{puts_one, following}
use Rattle.run_queue.proofs.queue.RunQueue.put.Goals as goal

pub push_as-requires-clause-rule : goal.push_as-requires-clause-rule
push_as-requires-clause-rule g c = (puts_one _ _ _ _ c.args.pass.now.puts.0, following _ _)
