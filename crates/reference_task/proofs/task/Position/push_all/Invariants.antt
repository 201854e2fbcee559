use Rattle.std.proofs.Common.{◌≡◌, ◌++◌, ℕ, List, length}
use Rattle.syntax.specs.View.{body_of}
use Rattle.meaning.specs.Tasks.{all_of, frame}
use Rattle.reference_scope.specs.Scopes.{blocks_of}
use Rattle.reference_task.specs.Tasks.{tasks_of}
use Rattle.reference_task.proofs.task.Position.push_all.Given as goal

-- what is left, before what is to be done, comes to what all come to
abbrev pub invariant-loop-last : goal.invariant-loop-last
invariant-loop-last l = (types : List (List ℕ)) →
    frame (blocks_of types l.self.scope) (all_of (body_of l.left) ++ tasks_of types l.self.tasks.items)
    ≡ frame (blocks_of types l.initial.self.scope) (all_of (body_of l.initial.left) ++ tasks_of types l.initial.self.tasks.items)

abbrev pub decreases-loop-last : goal.decreases-loop-last
decreases-loop-last l = length l.left
