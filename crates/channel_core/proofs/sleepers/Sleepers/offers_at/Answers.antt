use Rattle.std.proofs.Common.{ℕ, List, ap, ◌∙◌, false, length}
use Rattle.std.specs.List.{filter}
use Rattle.slab.specs.Slab.{get, slab_len}
use Rattle.slot_index.specs.Keys.{owned}
use Rattle.sleep_queue.specs.Queue.{is_in_either}
use Rattle.word.specs.Values.{Sleeper}
use Rattle.channel_core.specs.Asleep.{row_on}
use Rattle.channel_core.specs.Channels.{offers_at}
use Rattle.channel_core.proofs.Offered.{offers_counted}
use Rattle.channel_core.proofs.sleepers.Sleepers.offers_at.Goals as goal

pub returns : goal.returns
returns c =
    c.count_of_two.ensures
    ∙ ap (λ (r : ℕ). length (filter (is_in_either r c.row_on-2.result) c.self.inside.queues.waiting)) c.row_on.ensures
    ∙ ap (λ (r : ℕ). length (filter (is_in_either (row_on c.args.chan false) r) c.self.inside.queues.waiting)) c.row_on-2.ensures
    ∙ offers_counted c.args.chan (get c.self.inside.slots) (owned c.self.inside.places) c.self.inside.order c.self.inside.queues (slab_len c.self.inside.slots) c.self.invariant
    ∙ ap (λ (ss : List Sleeper). offers_at c.args.chan ss) c.self.view_is
