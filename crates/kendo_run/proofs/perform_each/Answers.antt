use Rattle.kendo_run.specs.Tasks.{Reports, subcommand_of}
use Rattle.kendo_shell.proofs.SeveralFiles.{of_more}
use Rattle.kendo_run.proofs.perform_each.Goals as goal

pub loop-file-preserved : goal.loop-file-preserved
loop-file-preserved g c = of_more (Reports (subcommand_of c.args.task)) _ _ _ _ c.loop-file.invariant c.in_ok-next.ensures c.first_failure-status.ensures
