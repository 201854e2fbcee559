use Rattle.std.proofs.Common.{◌≡◌, drop}
use Rattle.turn_rule.specs.Standings.{is_before_all}
use Rattle.turn_rule.proofs.standing.has_turn.Given as goal

abbrev pub invariant-loop-floor : goal.invariant-loop-floor
invariant-loop-floor l = is_before_all l.key (drop l.floor-index l.floors) ≡ is_before_all l.key l.floors
