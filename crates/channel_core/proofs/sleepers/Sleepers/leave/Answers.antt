use Rattle.std.proofs.Common.{List, ap, sym, ◌∙◌}
use Rattle.std.specs.Option.{is_some}
use Rattle.slab.specs.Slab.{get, slab_len}
use Rattle.slot_index.specs.Keys.{owned}
use Rattle.word.specs.Requests.{without}
use Rattle.word.specs.Values.{Sleeper}
use Rattle.channel_core.specs.Asleep.{placed}
use Rattle.channel_core.proofs.Kept.{nobody, sleeper_of}
use Rattle.channel_core.proofs.Slots.{leaves_slab}
use Rattle.channel_core.proofs.sleepers.Sleepers.leave.Goals as goal

pub remove-requires-in-Some : goal.remove-requires-in-Some
remove-requires-in-Some c =
    ap is_some (sleeper_of (get c.self.inside.slots) (owned c.self.inside.places) c.self.inside.order (placed c.self.inside.queues) (slab_len c.self.inside.slots) c.self.invariant c.args.number c.in-Some.key (sym c.in-Some.ensures.old)).1

pub invariant_of-self : goal.invariant_of-self
invariant_of-self c =
    (leaves_slab c.self.inside.slots c.remove-in-Some.new.self (owned c.self.inside.places) (owned c.remove.new.self) c.self.inside.order c.leave.new.self (placed c.self.inside.queues) (placed c.leave_all.new.queues) c.args.number c.in-Some.key
    c.self.invariant (sym c.in-Some.ensures.old) c.remove-in-Some.ensures.updates c.remove-in-Some.ensures.len c.in-Some.ensures.own c.in-Some.ensures.others c.leave.ensures c.leave_all.ensures).0

pub returns-in-Some : goal.returns-in-Some
returns-in-Some c =
    (leaves_slab c.self.inside.slots c.remove-in-Some.new.self (owned c.self.inside.places) (owned c.remove.new.self) c.self.inside.order c.leave.new.self (placed c.self.inside.queues) (placed c.leave_all.new.queues) c.args.number c.in-Some.key
    c.self.invariant (sym c.in-Some.ensures.old) c.remove-in-Some.ensures.updates c.remove-in-Some.ensures.len c.in-Some.ensures.own c.in-Some.ensures.others c.leave.ensures c.leave_all.ensures).1
    ∙ ap (λ (ss : List Sleeper). without ss c.args.number) c.self.view_is

pub returns-in_default : goal.returns-in_default
returns-in_default c =
    sym (nobody (get c.self.inside.slots) (owned c.self.inside.places) c.self.inside.order (placed c.self.inside.queues) (slab_len c.self.inside.slots) c.self.invariant c.args.number (sym c.remove.ensures.old ∙ c.in_default.is))
    ∙ ap (λ (ss : List Sleeper). without ss c.args.number) c.self.view_is
