use Rattle.std.proofs.Common.{◌≡◌, ℕ, ◌<◌}
use Rattle.std.specs.Prelude.{slice_index_or}
use Rattle.run_queue.specs.declared.view.View.{View}
use Rattle.run_queue.specs.Turns.{IsAllTaken}
use Rattle.workers.specs.Views.{views_of}
use Rattle.workers.proofs.work_queues.take_of.Given as goal

-- nothing is taken so far, and the queues so far were empty
abbrev pub invariant-loop-stealer : goal.invariant-loop-stealer
invariant-loop-stealer g l = record {
  views : views_of l.stealer-items ≡ views_of l.initial.stealer-items;
  empty : (k : ℕ) (d : View g.row.T.Denot) → k < l.stealer-index → IsAllTaken (slice_index_or (views_of l.initial.stealer-items) k d);
}
