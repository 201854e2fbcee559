use Rattle.pauses.proofs.Again.{plan_again}
use Rattle.pauses.proofs.laws.plans_are_read_again.Goals as goal

pub returns : goal.returns
returns c = λ ps h. plan_again ps h
