use Rattle.awake_rows.proofs.Kept.{living_skipped}
use Rattle.awake_rows.proofs.goroutines.Goroutines.skip.Goals as goal

pub returns-clause-ok : goal.returns-clause-ok
returns-clause-ok c = rw (← c.self.view_is) (living_skipped c.self.inside.count c.self.inside.slots c.self.inside.items.items c.self.inside.orders c.self.invariant)
