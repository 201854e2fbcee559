use Rattle.kendo.proofs.Judging.{of_some}
use Rattle.kendo.proofs.answer_file.Goals as goal

pub returns : goal.returns
returns g c = of_some c.args.invocation.now _ _ c.answer.result c.answer.ensures
