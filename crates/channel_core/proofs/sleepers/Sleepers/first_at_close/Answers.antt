use Rattle.std.proofs.Common.{◌≡◌, ℕ, Bool, List, [], ◌∷◌, Some, None, ap, subst, sym, ◌∙◌, false}
use Rattle.std.specs.Prelude.{cond}
use Rattle.std.specs.Option.{is_some}
use Rattle.slab.specs.Slab.{get, slab_len}
use Rattle.slot_index.specs.Keys.{owned}
use Rattle.sleep_queue.specs.Stored.{view_of}
use Rattle.word.specs.Requests.{got, partners, without}
use Rattle.word.specs.Values.{Closed, Reply, Sleeper}
use Rattle.word.specs.Views.{reply_of}
use Rattle.channel_core.specs.Asleep.{asleep_of}
use Rattle.channel_core.specs.Channels.{closed_for}
use Rattle.channel_core.proofs.Served.{close_found, close_there, is_some-copied, told_same}
use Rattle.channel_core.proofs.sleepers.Sleepers.first_at_close.Goals as goal

pub returns-in_default-clause-none : goal.returns-in_default-clause-none
returns-in_default-clause-none c =
    subst (λ (ss : List Sleeper). partners c.args.chan ss ≡ []) c.self.view_is
    (close_found (get c.self.inside.slots) (owned c.self.inside.places) c.self.inside.order c.self.inside.queues (slab_len c.self.inside.slots) c.self.invariant c.args.chan c.row_on-receives.result c.row_on-sends.result c.row_on-receives.ensures c.row_on-sends.ensures c.args.zero.now None c.in_default.ensures)

pub unreachable-requires : goal.unreachable-requires
unreachable-requires c =
    close_there (get c.self.inside.slots) (owned c.self.inside.places) c.self.inside.order c.self.inside.queues (slab_len c.self.inside.slots) c.self.invariant c.args.chan c.row_on-receives.result c.row_on-sends.result c.row_on-receives.ensures c.row_on-sends.ensures (view_of c.in-Some.offer) c.in-Some.ensures (sym c.in_default-get.ensures)

pub returns-clause-some : goal.returns-clause-some
returns-clause-some c =
    let z = c.args.zero.now in
    let reply : reply_of c.reply_at_close-reply.result ≡ cond (is_some (view_of c.in-Some.offer).item) Closed (got c.in-Some.offer.case z false) =
    c.reply_at_close-reply.ensures ∙ ap (λ (b : Bool). cond b Closed (got c.in-Some.offer.case z false)) (c.is_some.ensures ∙ sym (is_some-copied c.in-Some.offer.item)) in
    let same = c.new.ensures ∙ told_same (get c.self.inside.slots) c.args.chan z (view_of c.in-Some.offer) c.in-Some-get.sleeper.now c.number.result (reply_of c.reply_at_close-reply.result) (sym c.in-Some-get.ensures) c.number.ensures reply in
    let here : (w : ℕ × Reply) → List Sleeper → Type 0 = λ w ss. closed_for z (partners c.args.chan ss) ≡ w ∷ closed_for z (partners c.args.chan (without ss w.0)) in
    subst (here c.new.result) c.self.view_is
    (subst (λ (w : ℕ × Reply). here w (asleep_of (get c.self.inside.slots) c.self.inside.order)) (sym same)
    (close_found (get c.self.inside.slots) (owned c.self.inside.places) c.self.inside.order c.self.inside.queues (slab_len c.self.inside.slots) c.self.invariant c.args.chan c.row_on-receives.result c.row_on-sends.result c.row_on-receives.ensures c.row_on-sends.ensures z (Some (view_of c.in-Some.offer)) c.in-Some.ensures))
