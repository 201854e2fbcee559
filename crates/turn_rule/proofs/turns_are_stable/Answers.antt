use Rattle.turn_rule.proofs.Stable.{stable}
use Rattle.turn_rule.proofs.turns_are_stable.Goals as goal

pub returns : goal.returns
returns g c = λ r l w es. stable r l w es
