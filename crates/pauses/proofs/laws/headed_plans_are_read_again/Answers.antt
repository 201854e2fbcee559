use Rattle.pauses.proofs.Headed.{headed_plan_again}
use Rattle.pauses.proofs.laws.headed_plans_are_read_again.Goals as goal

pub returns : goal.returns
returns c = λ h ps ok. headed_plan_again h ps ok
