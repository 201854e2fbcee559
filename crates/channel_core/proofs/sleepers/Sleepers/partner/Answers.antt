use Rattle.std.proofs.Common.{List, Some, None, ap, refl, sym, ◌∙◌}
use Rattle.std.specs.Prelude.{option_copied, option_map}
use Rattle.slab.specs.Slab.{get, slab_len}
use Rattle.slot_index.specs.Keys.{owned}
use Rattle.sleep_queue.specs.Stored.{view_of}
use Rattle.word.specs.Requests.{partner}
use Rattle.word.specs.Values.{Sleeper}
use Rattle.channel_core.specs.Channels.{partner_of}
use Rattle.channel_core.proofs.Served.{partner_found, partner_same, partner_there}
use Rattle.channel_core.proofs.sleepers.Sleepers.partner.Goals as goal

pub returns-in_default : goal.returns-in_default
returns-in_default c =
    sym (ap (λ (ss : List Sleeper). option_map partner_of (partner c.args.chan c.args.sends ss)) (sym c.self.view_is)
    ∙ partner_found (get c.self.inside.slots) (owned c.self.inside.places) c.self.inside.order c.self.inside.queues (slab_len c.self.inside.slots) c.self.invariant c.args.chan c.args.sends c.row_on.result c.row_on.ensures None c.in_default.ensures)

pub unreachable-requires : goal.unreachable-requires
unreachable-requires c =
    partner_there (get c.self.inside.slots) (owned c.self.inside.places) c.self.inside.order c.self.inside.queues (slab_len c.self.inside.slots) c.self.invariant c.args.chan c.args.sends c.row_on.result c.row_on.ensures (view_of c.in-Some.offer) c.in-Some.ensures (sym c.in_default-get.ensures)

pub returns : goal.returns
returns c =
    partner_same (get c.self.inside.slots) (view_of c.in-Some.offer) c.in-Some-get.sleeper.now c.number.result (option_copied c.in-Some.offer.item) (sym c.in-Some-get.ensures) c.number.ensures refl
    ∙ sym (partner_found (get c.self.inside.slots) (owned c.self.inside.places) c.self.inside.order c.self.inside.queues (slab_len c.self.inside.slots) c.self.invariant c.args.chan c.args.sends c.row_on.result c.row_on.ensures (Some (view_of c.in-Some.offer)) c.in-Some.ensures)
    ∙ ap (λ (ss : List Sleeper). option_map partner_of (partner c.args.chan c.args.sends ss)) c.self.view_is
