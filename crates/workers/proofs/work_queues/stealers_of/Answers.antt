use Rattle.std.proofs.Common.{◌++◌, ap, ◌∙◌, arith, drop, take, List}
use Rattle.std.proofs.lemmas.List.{length-map}
use Rattle.run_queue.specs.declared.queue.RunQueue.{RunQueue}
use Rattle.workers.specs.Queues.{own_queues, queues_of}
use Rattle.workers.proofs.Teams.{own_of, turned}
use Rattle.workers.proofs.work_queues.stealers_of.Goals as goal

pub returns-clause-own : goal.returns-clause-own
returns-clause-own g c = c.in_ok-add_stealers-2.ensures.own ∙ c.in_ok-add_stealers.ensures.own

pub returns-clause-others : goal.returns-clause-others
returns-clause-others g c = c.in_ok-add_stealers-2.ensures.others ∙ c.in_ok-add_stealers.ensures.others

pub returns-clause-stealers : goal.returns-clause-stealers
returns-clause-stealers g c =
    let queues = own_queues c.args.all.now.items in
    let after = rw c.new-stealers.ensures.items at c.in_ok-add_stealers.ensures.stealers in
    let before = c.in_ok-add_stealers-2.ensures.stealers ∙ ap (λ (qs : List (RunQueue g.row.T.Denot)). queues_of c.add_stealers.new.stealers.items ++ drop 0 (take c.args.worker qs)) c.in_ok-add_stealers.ensures.own in
    turned queues c.args.worker c.len-count.result _ (length-map c.args.all.now.items own_of ∙ omega arith) (before ∙ ap (λ (qs : List (RunQueue g.row.T.Denot)). qs ++ drop 0 (take c.args.worker queues)) after)
