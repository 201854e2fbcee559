use Rattle.kendo_run.specs.Tasks.{subcommand_of}
use Rattle.kendo_run.proofs.Reporting.{of_some}
use Rattle.kendo_run.proofs.perform_on.Goals as goal

pub returns-in-Some : goal.returns-in-Some
returns-in-Some g c = of_some (subcommand_of c.args.task) c.in-Some.bytes.items c.answer.result c.answer.ensures
