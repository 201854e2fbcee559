use Rattle.std.proofs.Common.{ℕ, ◌<◌, subst, sym, ◌∙◌}
use Rattle.workers.proofs.Queues.{empty_more, if_none, if_some, none_of, taken_back, views_kept}
use Rattle.workers.proofs.work_queues.take_of.Goals as goal

pub loop-stealer-preserved : goal.loop-stealer-preserved
loop-stealer-preserved g c =
    let at = c.loop-stealer in
    let none = none_of c.take-found.result (sym c.is_some.ensures ∙ c.if-is_some.false) in
    record {
      views = views_kept at.stealer-items at.stealer-index c.stealer-item.result c.take-found.new.self (if_none c.take-found.result none c.take-found.ensures.none) ∙ at.invariant.views;
      empty = empty_more c.deref_mut-stealer-items.result.now at.stealer-items at.stealer-index c.stealer-item.result at.invariant.views (subst (λ (n : ℕ). at.stealer-index < n) (sym at.auto.stealer-items) c.loop-stealer-test.true) at.invariant.empty (if_none c.take-found.result none c.take-found.ensures.empty);
    }

pub returns-then-is_some-clause-some : goal.returns-then-is_some-clause-some
returns-then-is_some-clause-some g c =
    let lent = c.deref_mut-stealer-items in
    let at = c.loop-stealer in
    if_some c.take-found.result
    (λ item takes.
    taken_back c.args.stealers.now.items lent.result.now at.stealer-items at.stealer-index c.args.stealers.now.len c.stealer-item.result
    c.take-found.new.self item _ lent.ensures.value lent.ensures.len at.auto.stealer-items at.invariant.views c.loop-stealer-test.true takes)
    c.take-found.ensures.some
