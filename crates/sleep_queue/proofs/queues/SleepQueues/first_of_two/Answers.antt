use Rattle.std.proofs.Common.{◌≡◌, ℕ, List, Option, Some, None, ap, sym, ◌∙◌}
use Rattle.std.specs.Prelude.{option_copied, option_map}
use Rattle.std.specs.List.{filter}
use Rattle.sleep_queue.specs.Stored.{offer_of}
use Rattle.sleep_queue.specs.declared.offer.Node.{Node}
use Rattle.word.specs.declared.offer.Offer.{Offer}
use Rattle.sleep_queue.specs.Queue.{QueuesValue, Waiting, first, head_at, is_in_either, node_at, sooner}
use Rattle.sleep_queue.proofs.Sides.{first_of_heads}
use Rattle.sleep_queue.proofs.Store.{lent_sooner}
use Rattle.sleep_queue.proofs.queues.SleepQueues.first_of_two.Goals as goal

pub returns-in-Some : goal.returns-in-Some
returns-in-Some c =
    let q = c.self.invariant in
    let xs = c.self.inside.slots.slots in
    let heads = c.self.inside.heads.items in
    let at : (r : ℕ) → node_at xs (head_at c.as_slice-heads.result.now r) ≡ node_at xs (head_at heads r) = λ r. ap (λ (l : List (Option ℕ)). node_at xs (head_at l r)) c.as_slice-heads.ensures.value in
    let e : Some c.in-Some.node.now ≡ sooner (node_at xs (head_at heads c.args.row)) (node_at xs (head_at heads c.args.other)) =
    c.in-Some.ensures ∙ ap (λ (o : Option Node). sooner o (option_copied c.front-2.result)) (c.front.ensures ∙ at c.args.row)
    ∙ ap (λ (o : Option Node). sooner (node_at xs (head_at heads c.args.row)) o) (c.front-2.ensures ∙ at c.args.other) in
    ap (λ (o : Offer). Some o) (c.lend.ensures ∙ lent_sooner xs c.self.inside.items.slots q.stored (head_at heads c.args.row) (head_at heads c.args.other) c.in-Some.node.now (sym e))
    ∙ ap (option_map (λ (n : Node). offer_of n.offer)) e ∙ sym (first_of_heads xs c.self.inside.time c.args.row c.args.other q.apart q.before c.self.inside.rows.next (head_at heads) q.row)
    ∙ ap (λ (v : QueuesValue). option_map (λ (w : Waiting). w.offer) (first (filter (is_in_either c.args.row c.args.other) v.waiting))) c.self.view_is

pub returns-in-None : goal.returns-in-None
returns-in-None c =
    let q = c.self.invariant in
    let xs = c.self.inside.slots.slots in
    let heads = c.self.inside.heads.items in
    let at : (r : ℕ) → node_at xs (head_at c.as_slice-heads.result.now r) ≡ node_at xs (head_at heads r) = λ r. ap (λ (l : List (Option ℕ)). node_at xs (head_at l r)) c.as_slice-heads.ensures.value in
    let e : None ≡ sooner (node_at xs (head_at heads c.args.row)) (node_at xs (head_at heads c.args.other)) =
    c.in-None.ensures ∙ ap (λ (o : Option Node). sooner o (option_copied c.front-2.result)) (c.front.ensures ∙ at c.args.row)
    ∙ ap (λ (o : Option Node). sooner (node_at xs (head_at heads c.args.row)) o) (c.front-2.ensures ∙ at c.args.other) in
    ap (option_map (λ (n : Node). offer_of n.offer)) e ∙ sym (first_of_heads xs c.self.inside.time c.args.row c.args.other q.apart q.before c.self.inside.rows.next (head_at heads) q.row)
    ∙ ap (λ (v : QueuesValue). option_map (λ (w : Waiting). w.offer) (first (filter (is_in_either c.args.row c.args.other) v.waiting))) c.self.view_is
