-- Tasks in memory, as the meaning of a program sees them: lists lie with their next entry last.
use Rattle.std.specs.Prelude.{ℕ, List, map, reverse, option_map, Option}
use Rattle.std.specs.Borrow.{Bor}
use Rattle.syntax.specs.declared.node.ExpressionNode.{ExpressionNode}
use Rattle.syntax.specs.declared.node.SimpleNode.{SimpleNode}
use Rattle.syntax.specs.Tree.{Expression, Simple, Alone, Block, If, Branch, Conditional}
use Rattle.syntax.specs.View.{expression_of, simple_of, statement_of, branch_of, body_of}
use Rattle.meaning.specs.Tasks.{Loop as OneLoop, Repeating, Ranging, Task as OneTask, Do, EndBlock, Decide, Head, Again, Turn, EndSelect, Frame as OneFrame, Frames, frame}
use Rattle.reference_scope.specs.Destinations.{destinations_of}
use Rattle.reference_scope.specs.Scopes.{blocks_of}
use Rattle.reference_value.specs.Stops.{all_given}
use Rattle.reference_task.specs.declared.task.Repeat.{Repeat}
use Rattle.reference_task.specs.declared.task.Range.{Range}
use Rattle.reference_task.specs.declared.task.Loop.{Loop}
use Rattle.reference_task.specs.declared.task.Loop.TheVariants as loops
use Rattle.reference_task.specs.declared.task.Task.{Task}
use Rattle.reference_task.specs.declared.task.Task.TheVariants as tasks
use Rattle.reference_task.specs.declared.task.Position.{Position}
use Rattle.reference_task.specs.declared.task.Frame.{Frame}

abbrev pub expression_in : Option (Bor ExpressionNode) → Option Expression
expression_in found = option_map (λ (e : Bor ExpressionNode). expression_of e.now) found

abbrev pub simple_in : Option (Bor SimpleNode) → Option Simple
simple_in found = option_map (λ (s : Bor SimpleNode). simple_of s.now) found

abbrev pub repeat_in : Repeat → OneLoop
repeat_in loop = Repeating (expression_in loop.condition) (simple_in loop.post) (body_of loop.body.now)

abbrev pub range_in : List (List ℕ) → Range → OneLoop
range_in types loop = Ranging (destinations_of types loop.destinations.items) loop.zero.items (body_of loop.body.now)

abbrev pub loop_of : List (List ℕ) → Loop → OneLoop
loop_of types (loops.Repeating loop) = repeat_in loop.value
loop_of types (loops.Ranging loop) = range_in types loop.value

-- an if, after its first statement
abbrev pub decided : Branch → OneTask
decided (Conditional head condition body otherwise) = Decide condition body otherwise

abbrev pub task_of : List (List ℕ) → Task → OneTask
task_of types (tasks.Do statement) = Do (statement_of statement.value.now)
task_of types (tasks.Simply simple) = Do (Alone (simple_of simple.value.now))
task_of types (tasks.Branch branch) = Do (If (branch_of branch.value.now))
task_of types (tasks.Enclose body) = Do (Block (body_of body.value.now))
task_of types tasks.EndBlock = EndBlock
task_of types (tasks.Decide branch) = decided (branch_of branch.value.now)
task_of types (tasks.Head loop) = Head (loop_of types loop)
task_of types (tasks.Again loop) = Again (loop_of types loop)
task_of types (tasks.Turn loop) = Turn (loop_of types loop)
task_of types tasks.EndSelect = EndSelect

-- the tasks to come, the next one first
abbrev pub tasks_of : List (List ℕ) → List Task → List OneTask
tasks_of types all = reverse (map (task_of types) all)

-- a frame in which nothing was given yet within the next task
abbrev pub position_of : List (List ℕ) → Position → OneFrame
position_of types at = frame (blocks_of types at.scope) (tasks_of types at.tasks.items)

abbrev pub frame_of : List (List ℕ) → Frame → OneFrame
frame_of types top = record (position_of types top.position) { given = all_given top.given.items }

-- the functions that wait, the one called last first
abbrev pub frames_of : List (List ℕ) → List Frame → Frames
frames_of types all = reverse (map (frame_of types) all)
