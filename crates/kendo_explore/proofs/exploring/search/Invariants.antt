use Rattle.checker.specs.Trees.{tree_in}
use Rattle.exploration.specs.Shown.{AreFound}
use Rattle.syntax.specs.Spans.{tree_of}
use Rattle.kendo_explore.proofs.exploring.search.Given as goal

abbrev pub invariant-loop : goal.invariant-loop
invariant-loop g l = AreFound (tree_of (tree_in l.runner.typed.now)) l.runner.limit l.runner.scope l.findings
