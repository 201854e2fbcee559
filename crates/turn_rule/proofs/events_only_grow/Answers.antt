use Rattle.turn_rule.proofs.Grows.{grows}
use Rattle.turn_rule.proofs.events_only_grow.Goals as goal

pub returns : goal.returns
returns g c = λ r events records n w. grows r events records n w
