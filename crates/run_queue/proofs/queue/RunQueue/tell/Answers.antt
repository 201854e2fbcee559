use Rattle.std.proofs.Common.{ap, ◌∙◌}
use Rattle.run_queue.proofs.Moves.{notes, tells_put, tells_gone}
use Rattle.run_queue.proofs.queue.RunQueue.tell.Goals as goal

pub another-put-requires-clause-rule : goal.another-put-requires-clause-rule
another-put-requires-clause-rule g c = notes _ _

pub another-gone-requires-clause-rule : goal.another-gone-requires-clause-rule
another-gone-requires-clause-rule g c = notes _ _

pub absorb-requires-clause-rule : goal.absorb-requires-clause-rule
absorb-requires-clause-rule g c = tells_put _ _ _ _ (ap (λ v. v.puts) c.another-gone.ensures.rule.0 ∙ c.args.takes.now.takes.1)

pub absorb-requires-2-clause-rule : goal.absorb-requires-2-clause-rule
absorb-requires-2-clause-rule g c = tells_gone _ _ _ _ (ap (λ v. v.alone) c.another-put.ensures.rule.0 ∙ c.args.puts.now.puts.1)
