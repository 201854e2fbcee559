use Rattle.std.proofs.Common.{arith, sym, ◌∙◌, ℕ, ◌+◌, subst}
use Rattle.sleep_queue.specs.Linked.{link}
use Rattle.sleep_queue.proofs.Counts.{IsCounted, counted_all, counted_few, counted_first, counted_next}
use Rattle.sleep_queue.proofs.queues.count_from.Goals as goal

pub loop-next-init : goal.loop-next-init
loop-next-init c = record {
  counted = counted_first c.args.slots.now.slots c.requires.apart c.args.row (link c.args.rows.now.next) c.requires.ring c.args.head c.requires.first;
  next = c.next-next.ensures;
}

pub overflow_add-count : goal.overflow_add-count
overflow_add-count c =
    let more = counted_next c.args.slots.now.slots c.requires.apart c.args.row (link c.args.rows.now.next) c.requires.ring c.args.head c.requires.first c.loop-next.last c.loop-next.count c.loop-next.invariant.counted (λ e. c.loop-next-test.true (c.loop-next.invariant.next ∙ e)) in
    let few = counted_few c.args.slots.now.slots c.requires.apart c.args.row (link c.args.rows.now.next c.loop-next.last) (c.loop-next.count + 1) more in
    omega (arith, few, c.capacity-most.ensures.slots, c.capacity-most.type_inv)

pub loop-next-smaller : goal.loop-next-smaller
loop-next-smaller c =
    let more = counted_next c.args.slots.now.slots c.requires.apart c.args.row (link c.args.rows.now.next) c.requires.ring c.args.head c.requires.first c.loop-next.last c.loop-next.count c.loop-next.invariant.counted (λ e. c.loop-next-test.true (c.loop-next.invariant.next ∙ e)) in
    let few = counted_few c.args.slots.now.slots c.requires.apart c.args.row (link c.args.rows.now.next c.loop-next.last) (c.loop-next.count + 1) more in
    omega (arith, few)

pub loop-next-preserved : goal.loop-next-preserved
loop-next-preserved c = record {
  counted = subst (λ (k : ℕ). IsCounted c.args.slots.now.slots c.args.row k (c.loop-next.count + 1)) (sym c.loop-next.invariant.next)
      (counted_next c.args.slots.now.slots c.requires.apart c.args.row (link c.args.rows.now.next) c.requires.ring c.args.head c.requires.first c.loop-next.last c.loop-next.count c.loop-next.invariant.counted (λ e. c.loop-next-test.true (c.loop-next.invariant.next ∙ e)));
  next = c.next-next-in-loop-next.ensures;
}

pub returns : goal.returns
returns c = λ t before. counted_all c.args.slots.now.slots c.requires.apart c.args.row (link c.args.rows.now.next) c.requires.ring c.args.head c.requires.first c.loop-next.last c.loop-next.count t c.loop-next.invariant.counted (sym c.loop-next.invariant.next ∙ c.loop-next-test.false) before
