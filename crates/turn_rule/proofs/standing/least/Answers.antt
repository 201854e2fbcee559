use Rattle.std.proofs.Common.{◌+◌, subst, sym, refl}
use Rattle.std.proofs.lemmas.Option.{slice_get_read}
use Rattle.turn_rule.proofs.Best.{IsBest, best_on}
use Rattle.turn_rule.proofs.standing.least.Goals as goal

pub loop-i-preserved : goal.loop-i-preserved
loop-i-preserved c = subst (IsBest c.args.rows.now (c.loop-i.i + 1)) (sym c.better-best.ensures)
    (best_on c.args.rows.now c.loop-i.i c.loop-i.best c.index-rows-i.result c.loop-i.invariant (slice_get_read c.args.rows.now _ c.loop-i.i c.index-rows-i.result refl c.loop-i-test.true c.index-rows-i.is))
