use Rattle.run_queue.proofs.Moves.{takes_one, before}
use Rattle.run_queue.proofs.queue.RunQueue.take.Goals as goal

pub pop_as-requires-clause-rule : goal.pop_as-requires-clause-rule
pop_as-requires-clause-rule g c = (takes_one _ _ c.args.pass.now.takes.0, before _ _)
