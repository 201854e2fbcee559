use Rattle.kendo_front.proofs.Agreeing.{runs_agree}
use Rattle.kendo_front.proofs.agreement.runs_agree.Goals as goal

pub returns : goal.returns
returns c = runs_agree
