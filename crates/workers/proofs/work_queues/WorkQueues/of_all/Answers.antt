use Rattle.std.proofs.Common.{◌++◌, ◌+◌, ap, refl, ◌∙◌, arith, drop, take, List}
use Rattle.run_queue.specs.declared.queue.RunQueue.{RunQueue}
use Rattle.workers.specs.Queues.{own_queues}
use Rattle.workers.specs.declared.work_queues.WorkQueues.{WorkQueues}
use Rattle.workers.proofs.Teams.{own_kept, same_size, team_more}
use Rattle.workers.proofs.work_queues.WorkQueues.of_all.Goals as goal

pub loop-worker-init : goal.loop-worker-init
loop-worker-init g c = record { own = refl; team = λ k less. absurd (omega (arith, less)) }

pub loop-worker-preserved : goal.loop-worker-preserved
loop-worker-preserved g c =
    let at = c.loop-worker in
    let i = at.invariant in
    let all = c.stealers_of.new.all in
    let old = c.index_mut-queues.result.now in
    let new : WorkQueues g.row.T.Denot = record old { others = c.in_ok-others.others } in
    let there = c.index_mut-queues.ensures.value in
    let queues = own_queues c.in_ok-all.all.items in
    let turned = c.in_ok-others.ensures.stealers ∙ ap (λ (qs : List (RunQueue g.row.T.Denot)). drop (at.worker + 1) qs ++ take at.worker qs) i.own in
    record {
      own = own_kept all.items at.worker old new there refl ∙ c.in_ok-others.ensures.own ∙ i.own;
      team = team_more queues at.all.items all.items at.worker new (omega (arith, same_size all.items c.in_ok-all.all.items (c.in_ok-others.ensures.own ∙ i.own), c.in_ok-all.all.ok.0, c.len-worker-end.ensures)) c.in_ok-others.ensures.others i.team turned;
    }
