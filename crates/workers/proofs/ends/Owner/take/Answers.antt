use Rattle.std.proofs.Common.{ap, ◌∙◌}
use Rattle.run_queue.specs.Passes.{put_view, take_view}
use Rattle.run_queue.specs.Turns.{told_gone, told_put}
use Rattle.run_queue.specs.declared.view.View.{View}
use Rattle.workers.proofs.Queues.{if_some, none_more}
use Rattle.workers.proofs.ends.Owner.take.Goals as goal

pub returns-clause-some : goal.returns-clause-some
returns-clause-some g c = if_some c.take-found.result (λ item takes. (take_view c.take-found.new.pass, takes, (c.tell.ensures.puts, c.tell.ensures.takes))) c.take-found.ensures.some

pub returns-clause-none : goal.returns-clause-none
returns-clause-none g c =
    let puts = put_view c.args.self.now.puts in
    none_more c.take-found.result (λ same. (c.tell.ensures.puts ∙ ap (told_gone puts) same, c.tell.ensures.takes ∙ ap (λ (v : View g.row.T.Denot). told_put v puts) same)) c.take-found.ensures.none
