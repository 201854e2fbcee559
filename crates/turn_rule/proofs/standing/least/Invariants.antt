use Rattle.turn_rule.proofs.Best.{IsBest}
use Rattle.turn_rule.proofs.standing.least.Given as goal

abbrev pub invariant-loop-i : goal.invariant-loop-i
invariant-loop-i l = IsBest l.rows l.i l.best
