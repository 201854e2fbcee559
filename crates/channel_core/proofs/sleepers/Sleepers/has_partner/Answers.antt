use Rattle.std.proofs.Common.{ℕ, List, ap, sym, ◌∙◌}
use Rattle.std.specs.Option.{is_some}
use Rattle.slab.specs.Slab.{get, slab_len}
use Rattle.slot_index.specs.Keys.{owned}
use Rattle.sleep_queue.specs.Queue.{Waiting, first, row_of}
use Rattle.word.specs.Requests.{partner}
use Rattle.word.specs.Values.{Sleeper}
use Rattle.channel_core.specs.Asleep.{row_on}
use Rattle.channel_core.proofs.Served.{has_partner_is, is_some-map}
use Rattle.channel_core.proofs.sleepers.Sleepers.has_partner.Goals as goal

pub returns : goal.returns
returns c =
    c.has_offers.ensures ∙ ap (λ (r : ℕ). is_some (first (row_of r c.self.inside.queues.waiting))) c.row_on.ensures
    ∙ sym (is_some-map (λ (w : Waiting). w.offer) (first (row_of (row_on c.args.chan c.args.sends) c.self.inside.queues.waiting)))
    ∙ sym (has_partner_is (get c.self.inside.slots) (owned c.self.inside.places) c.self.inside.order c.self.inside.queues (slab_len c.self.inside.slots) c.self.invariant c.args.chan c.args.sends)
    ∙ ap (λ (ss : List Sleeper). is_some (partner c.args.chan c.args.sends ss)) c.self.view_is
