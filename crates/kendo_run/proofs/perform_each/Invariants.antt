use Rattle.kendo_run.specs.Tasks.{Reports, subcommand_of}
use Rattle.kendo_shell.specs.Answers.{IsOfAll}
use Rattle.kendo_run.proofs.perform_each.Given as goal

-- the status so far is that of the files so far
abbrev pub invariant-loop-file : goal.invariant-loop-file
invariant-loop-file g l = IsOfAll (Reports (subcommand_of l.task)) l.file-index l.status
