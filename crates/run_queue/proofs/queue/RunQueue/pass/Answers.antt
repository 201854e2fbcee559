use Rattle.run_queue.proofs.Moves.{furthers}
use Rattle.run_queue.proofs.queue.RunQueue.pass.Goals as goal

pub another-pass-requires-clause-rule : goal.another-pass-requires-clause-rule
another-pass-requires-clause-rule g c = furthers _ _ c.args.from.now.takes.0
