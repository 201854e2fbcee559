use Rattle.std.proofs.Common.{◌≡◌, ℕ, List, length}
use Rattle.meaning.specs.Tasks.{continued}
use Rattle.reference_scope.specs.Scopes.{blocks_of}
use Rattle.reference_task.specs.Tasks.{tasks_of}
use Rattle.reference_step.proofs.block.go_on.Given as goal

-- what is left comes to what all come to
abbrev pub invariant-loop-task : goal.invariant-loop-task
invariant-loop-task l = (types : List (List ℕ)) →
    continued (blocks_of types l.top.scope) (tasks_of types l.top.tasks.items)
    ≡ continued (blocks_of types l.initial.top.scope) (tasks_of types l.initial.top.tasks.items)

abbrev pub decreases-loop-task : goal.decreases-loop-task
decreases-loop-task l = length l.top.tasks.items
