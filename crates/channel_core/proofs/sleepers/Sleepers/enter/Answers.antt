use Rattle.std.proofs.Common.{◌++◌, ◌∷◌, [], List, ap, subst, sym, ◌∙◌}
use Rattle.std.specs.List.{filter}
use Rattle.slab.specs.Slab.{Slab, Updates, get, slab_len}
use Rattle.slot_index.specs.Keys.{owned}
use Rattle.std.specs.Prelude.{Some}
use Rattle.word.specs.Requests.{without}
use Rattle.word.specs.Values.{Sleeper}
use Rattle.word.specs.Views.{request_of}
use Rattle.channel_core.specs.Asleep.{IsAsleep, asleep_of, is_not_of, placed}
use Rattle.channel_core.specs.Orders.{is_not}
use Rattle.channel_core.proofs.Kept.{nothing_of}
use Rattle.channel_core.proofs.Slots.{enters_slab, replaces_slab, still_there}
use Rattle.channel_core.proofs.sleepers.Sleepers.enter.Goals as goal

pub place-requires : goal.place-requires
place-requires c =
    nothing_of (get c.reserve.new.self) (owned c.self.inside.places) c.self.inside.order (placed c.self.inside.queues) (slab_len c.reserve.new.self)
    (subst (λ (x : Slab Sleeper). IsAsleep (get x) (owned c.self.inside.places) c.self.inside.order (placed c.self.inside.queues) (slab_len x)) (sym c.reserve.ensures.rest_kept) c.self.invariant)
    c.vacant_key-key.result c.vacant_key-key.ensures.vacant

pub remove-requires : goal.remove-requires
remove-requires c =
    still_there c.reserve.new.self c.insert_reserved.new.self (owned c.self.inside.places) c.self.inside.order (placed c.self.inside.queues) c.args.number c.in-Some.old c.insert_reserved.result c.new.result
    (subst (λ (x : Slab Sleeper). IsAsleep (get x) (owned c.self.inside.places) c.self.inside.order (placed c.self.inside.queues) (slab_len x)) (sym c.reserve.ensures.rest_kept) c.self.invariant)
    (sym c.in_ok-before.ensures.before ∙ c.in-Some.is) c.insert_reserved.ensures.was_vacant c.insert_reserved.ensures.updates

pub invariant_of-self-in_default : goal.invariant_of-self-in_default
invariant_of-self-in_default c =
    (enters_slab c.reserve.new.self c.insert_reserved.new.self (owned c.self.inside.places) (owned c.place.new.places) c.self.inside.order c.enter.new.self (placed c.self.inside.queues) (placed c.place.new.queues) c.insert_reserved.result c.vacant_key-key.result
    (record { number = c.args.number; request = request_of c.args.request.now }) (subst (λ (x : Slab Sleeper). IsAsleep (get x) (owned c.self.inside.places) c.self.inside.order (placed c.self.inside.queues) (slab_len x)) (sym c.reserve.ensures.rest_kept) c.self.invariant)
    c.insert_reserved.ensures.was_vacant (subst (λ (t : Sleeper). Updates c.reserve.new.self c.insert_reserved.new.self c.insert_reserved.result (Some t)) c.new.ensures c.insert_reserved.ensures.updates)
    (c.insert_reserved.ensures.key ∙ sym c.vacant_key-key.ensures.value) c.insert_reserved.ensures.len (sym c.in_ok-before.ensures.before ∙ c.in_default.is)
    c.in_ok-before.ensures.own c.in_ok-before.ensures.others c.enter.ensures c.in_ok-before.ensures.rows).0

pub returns-in_default-clause-ok : goal.returns-in_default-clause-ok
returns-in_default-clause-ok c =
    (enters_slab c.reserve.new.self c.insert_reserved.new.self (owned c.self.inside.places) (owned c.place.new.places) c.self.inside.order c.enter.new.self (placed c.self.inside.queues) (placed c.place.new.queues) c.insert_reserved.result c.vacant_key-key.result
    (record { number = c.args.number; request = request_of c.args.request.now }) (subst (λ (x : Slab Sleeper). IsAsleep (get x) (owned c.self.inside.places) c.self.inside.order (placed c.self.inside.queues) (slab_len x)) (sym c.reserve.ensures.rest_kept) c.self.invariant)
    c.insert_reserved.ensures.was_vacant (subst (λ (t : Sleeper). Updates c.reserve.new.self c.insert_reserved.new.self c.insert_reserved.result (Some t)) c.new.ensures c.insert_reserved.ensures.updates)
    (c.insert_reserved.ensures.key ∙ sym c.vacant_key-key.ensures.value) c.insert_reserved.ensures.len (sym c.in_ok-before.ensures.before ∙ c.in_default.is)
    c.in_ok-before.ensures.own c.in_ok-before.ensures.others c.enter.ensures c.in_ok-before.ensures.rows).1
    ∙ ap (λ (ss : List Sleeper). without ss c.args.number ++ record { number = c.args.number; request = request_of c.args.request.now } ∷ []) (ap (λ (x : Slab Sleeper). asleep_of (get x) c.self.inside.order) c.reserve.ensures.rest_kept ∙ c.self.view_is)

pub invariant_of-self-in-Some : goal.invariant_of-self-in-Some
invariant_of-self-in-Some c =
    (replaces_slab c.reserve.new.self c.insert_reserved.new.self c.remove.new.self (owned c.self.inside.places) (owned c.place.new.places) c.self.inside.order c.leave.new.self (placed c.self.inside.queues) (placed c.leave_all.new.queues) c.insert_reserved.result c.vacant_key-key.result c.in-Some.old
    (record { number = c.args.number; request = request_of c.args.request.now }) (subst (λ (x : Slab Sleeper). IsAsleep (get x) (owned c.self.inside.places) c.self.inside.order (placed c.self.inside.queues) (slab_len x)) (sym c.reserve.ensures.rest_kept) c.self.invariant)
    c.insert_reserved.ensures.was_vacant (subst (λ (t : Sleeper). Updates c.reserve.new.self c.insert_reserved.new.self c.insert_reserved.result (Some t)) c.new.ensures c.insert_reserved.ensures.updates)
    (c.insert_reserved.ensures.key ∙ sym c.vacant_key-key.ensures.value) c.insert_reserved.ensures.len c.remove.ensures.updates c.remove.ensures.len (sym c.in_ok-before.ensures.before ∙ c.in-Some.is)
    c.in_ok-before.ensures.own c.in_ok-before.ensures.others (c.leave.ensures ∙ ap (filter (is_not c.in-Some.old)) c.enter.ensures) (c.leave_all.ensures ∙ ap (filter (is_not_of c.in-Some.old)) c.in_ok-before.ensures.rows)).0

pub returns-in-Some-clause-ok : goal.returns-in-Some-clause-ok
returns-in-Some-clause-ok c =
    (replaces_slab c.reserve.new.self c.insert_reserved.new.self c.remove.new.self (owned c.self.inside.places) (owned c.place.new.places) c.self.inside.order c.leave.new.self (placed c.self.inside.queues) (placed c.leave_all.new.queues) c.insert_reserved.result c.vacant_key-key.result c.in-Some.old
    (record { number = c.args.number; request = request_of c.args.request.now }) (subst (λ (x : Slab Sleeper). IsAsleep (get x) (owned c.self.inside.places) c.self.inside.order (placed c.self.inside.queues) (slab_len x)) (sym c.reserve.ensures.rest_kept) c.self.invariant)
    c.insert_reserved.ensures.was_vacant (subst (λ (t : Sleeper). Updates c.reserve.new.self c.insert_reserved.new.self c.insert_reserved.result (Some t)) c.new.ensures c.insert_reserved.ensures.updates)
    (c.insert_reserved.ensures.key ∙ sym c.vacant_key-key.ensures.value) c.insert_reserved.ensures.len c.remove.ensures.updates c.remove.ensures.len (sym c.in_ok-before.ensures.before ∙ c.in-Some.is)
    c.in_ok-before.ensures.own c.in_ok-before.ensures.others (c.leave.ensures ∙ ap (filter (is_not c.in-Some.old)) c.enter.ensures) (c.leave_all.ensures ∙ ap (filter (is_not_of c.in-Some.old)) c.in_ok-before.ensures.rows)).1
    ∙ ap (λ (ss : List Sleeper). without ss c.args.number ++ record { number = c.args.number; request = request_of c.args.request.now } ∷ []) (ap (λ (x : Slab Sleeper). asleep_of (get x) c.self.inside.order) c.reserve.ensures.rest_kept ∙ c.self.view_is)
