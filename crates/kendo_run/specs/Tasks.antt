-- What this program does of the commands that there are, and its exit status.
use Rattle.std.specs.Prelude.{◌≡◌, ℕ, List, Result, length}
use Rattle.command_line.specs.declared.arguments.Invocation.{Invocation}
use Rattle.command_line.specs.declared.arguments.Subcommand.{Subcommand}
use Rattle.command_line.specs.declared.arguments.Subcommand.TheVariants as subcommands
use Rattle.go_text.specs.declared.fault.Fault.{Fault}
use Rattle.kendo_report.specs.Outcome.{report_status}
use Rattle.kendo_run.specs.declared.task.Task.{Task}
use Rattle.kendo_run.specs.declared.task.Task.TheVariants as tasks
use Rattle.kendo_shell.specs.Answers.{Finds, IsOfAll}
use Rattle.word.specs.declared.end.End.{End}

-- the command of a task
abbrev pub subcommand_of : Task → Subcommand
subcommand_of tasks.Check = subcommands.Check
subcommand_of (tasks.Run workers limit) = subcommands.Run workers limit

-- a command that this program does not do
abbrev pub IsAnother : Subcommand → Type 0
IsAnother subcommands.Check = ⊥
IsAnother (subcommands.Run workers limit) = ⊥
IsAnother subcommand = Unit {0}

-- the exit status that reports what the command finds in this program
abbrev pub IsReported : Subcommand → (text : List ℕ) → (status : ℕ) → Type 0
IsReported subcommand text status = (outcome : Result End Fault) × Finds subcommand text outcome × (status ≡ report_status outcome)

-- in some program, as a file's bytes are in no contract
abbrev pub Reports : Subcommand → (status : ℕ) → Type 0
Reports subcommand status = (text : List ℕ) × IsReported subcommand text status

-- the exit status of what an invocation finds in its files
abbrev pub ReportsAll : Invocation → (status : ℕ) → Type 0
ReportsAll invocation status = IsOfAll (Reports invocation.subcommand) (length invocation.files.now) status
