use Rattle.awake_rows.proofs.Floors.{blocks}
use Rattle.awake_rows.proofs.goroutines.Goroutines.blocker.Goals as goal

pub returns-then-number-key : goal.returns-then-number-key
returns-then-number-key c =
    let g = c.self.inside in
    rw (← c.self.view_is) (blocks g.count g.slots g.items.items g.orders c.self.invariant c.args.key c.deref.result.now c.blocker.result c.deref.ensures.value c.blocker.ensures.none c.blocker.ensures.some)
