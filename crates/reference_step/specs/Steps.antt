-- What the functions of a task do, by what the meaning of the program says of it.
use Rattle.std.specs.Prelude.{◌≡◌, ℕ, List, Option, Some, None}
use Rattle.type_table.specs.Scopes.{Globals}
use Rattle.type_table.specs.Visible.{types_of, globals_in}
use Rattle.type_table.specs.declared.table.TypeTable.{TypeTable}
use Rattle.meaning.specs.Tasks.{Task, Course as OneCourse, Goes, Moves, GivesBack}
use Rattle.meaning.specs.Variables.{Blocks}
use Rattle.meaning.specs.Worked.{Reached, Came, Fails, Needs, Worked}
use Rattle.reference_value.specs.declared.fault.Stop.{Stop}
use Rattle.reference_value.specs.declared.fault.Stop.TheVariants as stops
use Rattle.reference_value.specs.declared.given.Given.{Given}
use Rattle.reference_scope.specs.Scopes.{blocks_of}
use Rattle.reference_value.specs.Stops.{all_given, need_of}
use Rattle.reference_task.specs.declared.task.Position.{Position}
use Rattle.reference_task.specs.declared.outcome.Course.{Course}
use Rattle.reference_task.specs.declared.outcome.Course.TheVariants as courses
use Rattle.reference_task.specs.declared.outcome.Outcome.{Outcome}
use Rattle.reference_task.specs.declared.outcome.Outcome.TheVariants as outcomes
use Rattle.reference_task.specs.Tasks.{position_of, tasks_of}

-- what a task works out to, if these are the variables and these tasks are to be done after it
abbrev pub Work : Type 0
Work = Globals → Blocks → List Task → Worked OneCourse

-- what it comes to at a position, with what was given within the task so far
abbrev pub reached_at : Work → TypeTable → List Given → Position → Reached OneCourse
reached_at work table given at = work (globals_in table) (blocks_of (types_of table) at.scope) (tasks_of (types_of table) at.tasks.items) (all_given given)

-- what one came to, whatever is left of what was given
abbrev pub arrived : {A : Type 0} → Reached A → Option A
arrived (Came a left) = Some a
arrived (Fails cause) = None
arrived (Needs need) = None

-- a function goes on at this position
abbrev pub course_of : List (List ℕ) → Course → Position → OneCourse
course_of types courses.Goes at = Goes (position_of types at)
course_of types courses.Moves at = Moves (position_of types at)

-- the work leads to this position
abbrev pub Leads : Work → TypeTable → List Given → Position → Position → Course → Type 0
Leads work table given old new course = arrived (reached_at work table given old) ≡ Some (course_of (types_of table) course new)

-- the work leads on, or the function returns, at the position where it was
abbrev pub Becomes : Work → TypeTable → List Given → Position → Position → Outcome → Type 0
Becomes work table given old new (outcomes.Leads course) = Leads work table given old new course
Becomes work table given old new (outcomes.Returns words) =
    (arrived (reached_at work table given old) ≡ Some (GivesBack words.items)) × (position_of (types_of table) new ≡ position_of (types_of table) old)

-- a panic is the one that is met, and a need is the next one, and the position stays; out of memory says nothing
abbrev pub Stays : Work → TypeTable → List Given → Position → Position → Stop → Type 0
Stays work table given old new stops.Memory = Unit {0}
Stays work table given old new (stops.Panics cause) = (reached_at work table given old ≡ Fails cause) × (position_of (types_of table) new ≡ position_of (types_of table) old)
Stays work table given old new (stops.Needs need) =
    (reached_at work table given old ≡ Needs (need_of need.value)) × (position_of (types_of table) new ≡ position_of (types_of table) old)
