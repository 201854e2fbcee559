-- Steps of goroutines.
use Rattle.std.specs.Prelude.{ℕ, List, ◌∷◌}
use Rattle.syntax.specs.Tree.{File}
use Rattle.meaning.specs.Source.{reached}
use Rattle.meaning.specs.Tasks.{Course, Frame, Frames}
use Rattle.meaning.specs.Worked.{Reached}
use Rattle.one_thread.specs.Steps.{Moves}
use Rattle.one_thread.specs.declared.interpreter.Step.{Step}
use Rattle.one_thread.specs.declared.interpreter.Step.TheVariants as steps
use Rattle.reference_value.specs.declared.given.Given.{Given}
use Rattle.reference_value.specs.Stops.{all_given}
use Rattle.reference_task.specs.declared.outcome.Course.{Course as Led}
use Rattle.reference_task.specs.declared.outcome.Course.TheVariants as courses
use Rattle.reference_task.specs.declared.task.Position.{Position}
use Rattle.reference_task.specs.declared.task.Task.{Task}
use Rattle.reference_task.specs.Tasks.{position_of, task_of, tasks_of}

-- the frame from which this task was taken
abbrev pub frame_before : List (List ℕ) → Position → Task → List Given → Frame
frame_before types at next given = record (position_of types at) { given = all_given given; tasks = task_of types next ∷ tasks_of types at.tasks.items }

-- a goroutine whose function that runs comes so far makes this step, to these frames
abbrev pub Steps : File → Frame → Frames → Reached Course → Step → Frames → Type 0
Steps file top callers come step new = Moves (reached file top callers come) step new (top ∷ callers)

-- the step of a goroutine whose task is done
abbrev pub step_to : Led → Step
step_to courses.Goes = steps.Slides
step_to courses.Moves = steps.Ticks
