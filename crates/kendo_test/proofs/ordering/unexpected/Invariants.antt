use Rattle.std.proofs.Common.{All, List, ℕ}
use Rattle.exploration.specs.Shown.{IsEnd}
use Rattle.kendo_explore.specs.Explored.{ends_by}
use Rattle.kendo_reading.specs.Reading.{Reads}
use Rattle.kendo_test.specs.Passing.{FailsBy}
use Rattle.syntax.specs.Tree.{File}
use Rattle.kendo_test.proofs.ordering.unexpected.Given as goal

abbrev pub invariant-loop-plan : goal.invariant-loop-plan
invariant-loop-plan l =
    (text : List ℕ) (limit : ℕ) (file : File) → Reads text file → All (IsEnd file limit) (ends_by l.fn.explored.plans.items)
    → All (IsEnd file limit) (ends_by l.plan-iterator.rest.items) × All (FailsBy l.expectation l.leaks text limit) (ends_by l.failing.items)
