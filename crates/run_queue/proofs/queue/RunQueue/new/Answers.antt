use Rattle.std.proofs.Common.{ap}
use Rattle.run_queue.proofs.Moves.{begins, ends}
use Rattle.run_queue.proofs.queue.RunQueue.new.Goals as goal

pub ruled-requires-clause-rule : goal.ruled-requires-clause-rule
ruled-requires-clause-rule g c = begins g.row.T.Denot

pub another-takes-requires-clause-rule : goal.another-takes-requires-clause-rule
another-takes-requires-clause-rule g c =
    let is = c.in_ok-line.ensures.3 in
    ends _ _ (ap (λ v. v.puts) is) (ap (λ v. v.takes) is) (ap (λ v. v.alone) is)
