use Rattle.std.proofs.Common.{ap, sym, ◌∙◌, ℕ, List, Option, length}
use Rattle.sleep_queue.specs.Queue.{head_at}
use Rattle.sleep_queue.proofs.Sides.{head_none}
use Rattle.sleep_queue.proofs.queues.SleepQueues.count.Goals as goal

pub returns-in-None : goal.returns-in-None
returns-in-None c = let q = c.self.invariant in
    rw (← c.self.view_is) (sym (ap length (head_none c.self.inside.slots.slots c.self.inside.time c.args.row c.self.inside.rows.next (head_at c.self.inside.heads.items) q.row (sym (c.head_of.ensures ∙ ap (λ (l : List (Option ℕ)). head_at l c.args.row) c.as_slice.ensures.value) ∙ c.in-None.is))))
