use Rattle.kendo.specs.Verdicts.{Judges}
use Rattle.kendo_shell.proofs.SeveralFiles.{of_more}
use Rattle.kendo.proofs.perform_each.Goals as goal

pub loop-file-preserved : goal.loop-file-preserved
loop-file-preserved g c = of_more (Judges c.args.invocation.now) _ _ _ _ c.loop-file.invariant c.in_ok-next.ensures c.first_failure-status.ensures
