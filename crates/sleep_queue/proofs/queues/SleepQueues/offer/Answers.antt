use Rattle.std.proofs.Common.{ap, sym, ◌∙◌, Some}
use Rattle.std.specs.List.{filter}
use Rattle.std.specs.Option.{is_some}
use Rattle.std.specs.Prelude.{option_map}
use Rattle.std.proofs.lemmas.Bool.{false≢true}
use Rattle.sleep_queue.specs.Queue.{QueuesValue, Waiting, first, is_at}
use Rattle.word.specs.declared.offer.Offer.{Offer}
use Rattle.sleep_queue.proofs.Sides.{at_key, none_at}
use Rattle.sleep_queue.proofs.Store.{lent_offer}
use Rattle.sleep_queue.proofs.queues.SleepQueues.offer.Goals as goal

pub returns-in-Some : goal.returns-in-Some
returns-in-Some c =
    let q = c.self.invariant in
    ap (λ (o : Offer). Some o) (c.copy.ensures ∙ c.lend.ensures ∙ lent_offer c.self.inside.slots.slots c.self.inside.items.slots q.stored c.args.key c.in-Some.node.now (sym c.in-Some.ensures))
    ∙ sym (ap (option_map (λ (w : Waiting). w.offer)) (at_key c.self.inside.slots.slots c.self.inside.time c.args.key c.in-Some.node.now q.apart q.before (sym c.in-Some.ensures)))
    ∙ ap (λ (v : QueuesValue). option_map (λ (w : Waiting). w.offer) (first (filter (is_at c.args.key) v.waiting))) c.self.view_is

pub returns-in-None : goal.returns-in-None
returns-in-None c =
    sym (ap (option_map (λ (w : Waiting). w.offer)) (none_at c.self.inside.slots.slots c.self.inside.time c.args.key (λ t. false≢true (ap is_some c.in-None.ensures ∙ t))))
    ∙ ap (λ (v : QueuesValue). option_map (λ (w : Waiting). w.offer) (first (filter (is_at c.args.key) v.waiting))) c.self.view_is
