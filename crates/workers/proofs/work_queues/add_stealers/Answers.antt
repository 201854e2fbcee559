use Rattle.std.proofs.Common.{append-nil, ap, refl, sym, ◌∙◌, ◌++◌, List, arith}
use Rattle.run_queue.specs.declared.queue.RunQueue.{RunQueue}
use Rattle.workers.specs.Queues.{own_queues, queues_of}
use Rattle.workers.specs.declared.work_queues.WorkQueues.{WorkQueues}
use Rattle.workers.proofs.Teams.{added, none_yet, others_kept, own_kept, same_size}
use Rattle.workers.proofs.work_queues.add_stealers.Goals as goal

pub loop-worker-init : goal.loop-worker-init
loop-worker-init g c = record {
  own = refl;
  others = refl;
  stealers = sym (ap (λ (qs : List (RunQueue g.row.T.Denot)). queues_of c.args.stealers.now.items ++ qs) (none_yet (own_queues c.args.all.now.items) c.args.from) ∙ append-nil _);
}

pub loop-worker-preserved : goal.loop-worker-preserved
loop-worker-preserved g c =
    let at = c.loop-worker in
    let i = at.invariant in
    let old = c.index_mut-queues.result.now in
    let new : WorkQueues g.row.T.Denot = record old { own = c.stealer.new.self } in
    let there = c.index_mut-queues.ensures.value in
    record {
      own = own_kept at.all.items at.worker old new there c.stealer.ensures.same ∙ i.own;
      others = others_kept at.all.items at.worker old new there refl ∙ i.others;
      stealers = ap queues_of c.in_ok-push.ensures.items
          ∙ added at.all.items at.stealers.items (own_queues c.args.all.now.items) (queues_of c.args.stealers.now.items) c.args.from at.worker old c.in_ok-stealer.stealer (omega arith) (omega (arith, same_size at.all.items c.args.all.now.items i.own)) i.own there c.in_ok-stealer.ensures.queue i.stealers;
    }
