use Rattle.kendo.specs.Verdicts.{Judges}
use Rattle.kendo_shell.specs.Answers.{IsOfAll}
use Rattle.kendo.proofs.testing.test_files.Given as goal

-- the status so far is that of the programs so far
abbrev pub invariant-loop-path : goal.invariant-loop-path
invariant-loop-path g l = IsOfAll (Judges l.invocation) l.path-index l.status
