use Rattle.std.proofs.Common.{subst, sym}
use Rattle.awake_rows.specs.Living.{AreOrders, Items}
use Rattle.awake_rows.proofs.Kept.{none_living}
use Rattle.awake_rows.proofs.goroutines.Goroutines.new.Goals as goal

pub invariant_of-result : goal.invariant_of-result
invariant_of-result c =
    none_living c.new.result c.new-2.result.items c.new-3.result c.new.ensures.slots c.new.ensures.numbers
    (subst (λ (items : Items). AreOrders c.new-3.result c.new.result items) (sym c.new-2.ensures.items) (c.new-3.ensures c.new.result))
