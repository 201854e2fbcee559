-- What the program finds in a file.
use Rattle.std.specs.Prelude.{◌≡◌, ℕ, ◌≤◌, ◌==◌, ◌⊎◌, List, [], Some, None, Result, Ok, Err, if◌then◌else◌, length, fold, All}
use Rattle.clap.specs.Faults.{fault_of}
use Rattle.clap.specs.Kinds.{IsAmong}
use Rattle.clap.specs.Simple.{subcommand_of}
use Rattle.clap.specs.Words.{Text}
use Rattle.clap.specs.declared.error.kind.ErrorKind.{ErrorKind}
use Rattle.clap.specs.declared.error.kind.ErrorKind.TheVariants as kinds
use Rattle.meaning.specs.Source.{source_kind}
use Rattle.command_line.specs.CommandLine.{IsAsked, kendo}
use Rattle.command_line.specs.declared.arguments.Subcommand.{Subcommand}
use Rattle.command_line.specs.declared.arguments.Subcommand.TheVariants as subcommands
use Rattle.command_line.specs.declared.arguments.Invocation.{Invocation}
use Rattle.kendo_report.specs.Outcome.{report_status}
use Rattle.kendo_reading.specs.Reading.{HasNoReading, IsWhy, Reads}
use Rattle.whole_run.specs.Runs.{IsLimit, IsWorkers}
use Rattle.pauses.specs.Paused.{paused}
use Rattle.pauses.specs.Plans.{Pause}
use Rattle.go_text.specs.declared.fault.Fault.{Fault}
use Rattle.go_text.specs.declared.fault.Fault.TheVariants as faults
use Rattle.syntax.specs.Tree.{File}
use Rattle.word.specs.declared.end.End.{End}
use Rattle.word.specs.declared.end.End.TheVariants.{Finished}
use Rattle.word.specs.Worlds.{end_of, moment}

-- the source has a reading
abbrev pub HasReading : List ℕ → Type 0
HasReading text = (file : File) × Reads text file

-- the one-thread run of its reading at this limit ends so
abbrev pub EndsAs : List ℕ → ℕ → End → Type 0
EndsAs text limit end = (file : File) × (n : ℕ) × Reads text file × (end_of (moment (source_kind file) limit n) ≡ Some end)

-- that of goroutines that keep to these pauses does
abbrev pub EndsPaused : List ℕ → List Pause → ℕ → End → Type 0
EndsPaused text pauses limit end = (file : File) × (n : ℕ) × Reads text file × (end_of (moment (paused (source_kind file) pauses) limit n) ≡ Some end)

-- the command's workers and its limit are within their bounds
abbrev pub IsInBounds : Subcommand → Type 0
IsInBounds (subcommands.Run workers limit) = IsWorkers workers × IsLimit limit
IsInBounds (subcommands.Reference limit) = IsLimit limit
IsInBounds (subcommands.Timeline limit) = IsLimit limit
IsInBounds (subcommands.Explore limit tries states) = IsLimit limit
IsInBounds (subcommands.Test limit tries states) = IsLimit limit
IsInBounds (subcommands.Inspect limit) = IsLimit limit
IsInBounds (subcommands.Paused workers limit) = IsWorkers workers × IsLimit limit
IsInBounds subcommand = Unit {0}

-- Why the command finds no end: out of memory; workers or a limit out of their bounds, the workers first; else a writer that
-- refused bytes, of a source that has a reading; or, by this fault, why the source has no reading. A test is reported in
-- lines of its own, whatever the source is.
abbrev pub IsReason : Subcommand → List ℕ → Fault → Type 0
IsReason subcommand text faults.Memory = Unit {0}
IsReason (subcommands.Run workers limit) text faults.BadWorkers = IsWorkers workers → ⊥
IsReason (subcommands.Paused workers limit) text faults.BadWorkers = IsWorkers workers → ⊥
IsReason subcommand text faults.BadWorkers = ⊥
IsReason (subcommands.Run workers limit) text faults.BadLimit = IsWorkers workers × (IsLimit limit → ⊥)
IsReason (subcommands.Reference limit) text faults.BadLimit = IsLimit limit → ⊥
IsReason (subcommands.Timeline limit) text faults.BadLimit = IsLimit limit → ⊥
IsReason (subcommands.Explore limit tries states) text faults.BadLimit = IsLimit limit → ⊥
IsReason (subcommands.Test limit tries states) text faults.BadLimit = IsLimit limit → ⊥
IsReason (subcommands.Inspect limit) text faults.BadLimit = IsLimit limit → ⊥
IsReason (subcommands.Paused workers limit) text faults.BadLimit = IsWorkers workers × (IsLimit limit → ⊥)
IsReason subcommand text faults.BadLimit = ⊥
IsReason subcommands.Check text faults.Write = ⊥
IsReason (subcommands.Test limit tries states) text faults.Write = Unit {0}
IsReason subcommand text faults.Write = IsInBounds subcommand × HasReading text
IsReason subcommand text (faults.Unverified rule function place) = ⊥
IsReason subcommand text faults.NotYours = ⊥
IsReason subcommand text fault = IsInBounds subcommand × HasNoReading text × IsWhy text fault

-- What the command finds in the source: that it has a reading, or that a picture was made of its run, or that it was
-- explored or tested, or a moment of its run shown, or how its run ends, or why none of these.
abbrev pub Finds : Subcommand → List ℕ → Result End Fault → Type 0
Finds subcommands.Check text (Ok end) = (end ≡ Finished) × HasReading text
Finds subcommands.List text (Ok end) = (end ≡ Finished) × HasReading text
Finds (subcommands.Reference limit) text (Ok end) = IsLimit limit × EndsAs text limit end
Finds (subcommands.Timeline limit) text (Ok end) = (end ≡ Finished) × IsLimit limit × HasReading text
Finds (subcommands.Explore limit tries states) text (Ok end) = (end ≡ Finished) × IsLimit limit × HasReading text
Finds (subcommands.Test limit tries states) text (Ok end) = (end ≡ Finished) × IsLimit limit
Finds (subcommands.Inspect limit) text (Ok end) = (end ≡ Finished) × IsLimit limit × HasReading text
Finds (subcommands.Paused workers limit) text (Ok end) = IsWorkers workers × IsLimit limit × ((pauses : List Pause) × EndsPaused text pauses limit end)
Finds (subcommands.Run workers limit) text (Ok end) = IsWorkers workers × IsLimit limit × EndsAs text limit end
Finds subcommand text (Err fault) = IsReason subcommand text fault

-- the exit status of an exploration that found another end, or could not search all orders, of a test that failed, and of a run that is not the recorded one
abbrev pub IsVerdict : Subcommand → Result End Fault → ℕ → Type 0
IsVerdict (subcommands.Explore limit tries states) (Ok end) status = (status ≡ 8) ⊎ (status ≡ 9)
IsVerdict (subcommands.Test limit tries states) (Ok end) status = status ≡ 1
IsVerdict (subcommands.Run workers limit) (Ok end) status = status ≡ 8
IsVerdict (subcommands.Paused workers limit) (Ok end) status = status ≡ 8
IsVerdict subcommand outcome status = ⊥

-- the exit status of what the command finds in this program
abbrev pub IsStatusOf : Subcommand → List ℕ → ℕ → Type 0
IsStatusOf subcommand text status =
    (outcome : Result End Fault) × Finds subcommand text outcome × ((status ≡ report_status outcome) ⊎ IsVerdict subcommand outcome status)

-- the exit status of what the command finds in some program, as a file's bytes are in no contract
abbrev pub Tells : Subcommand → ℕ → Type 0
Tells subcommand status = (text : List ℕ) × IsStatusOf subcommand text status

-- the first of two exit statuses that is not 0, or 0
abbrev pub first_failed : (first second : ℕ) → ℕ
first_failed first second = if first == 0 then second else first

-- the exit status of a command on one file: 64 if the file can't be used, otherwise it reports what was found in it
abbrev pub IsOfOne : (Reports : (status : ℕ) → Type 0) → (status : ℕ) → Type 0
IsOfOne Reports status = (status ≡ 64) ⊎ Reports status

-- on this many files: of one status for each file, the first that is not 0, or 0
abbrev pub IsOfAll : (Reports : (status : ℕ) → Type 0) → (count status : ℕ) → Type 0
IsOfAll Reports count status = (statuses : List ℕ) × (length statuses ≡ count) × All (IsOfOne Reports) statuses × (status ≡ fold first_failed 0 statuses)

-- an exit status of the program
abbrev pub IsStatus : ℕ → Type 0
IsStatus status = (status ≤ 6) ⊎ ((status ≡ 64) ⊎ ((status ≡ 8) ⊎ (status ≡ 9)))

-- the exit status if help or the version was requested, or the words are refused for another reason
abbrev pub ShowsAs : ErrorKind → ℕ → Type 0
ShowsAs kinds.DisplayHelp status = (status ≡ 0) ⊎ (status ≡ 6)
ShowsAs kinds.DisplayVersion status = (status ≡ 0) ⊎ (status ≡ 6)
ShowsAs kind status = status ≡ 64

-- the exit status of a command line, if `Reports` says which statuses report what an invocation finds in all its files
pub data Obeys (Reports : Invocation → (status : ℕ) → Type 0) (words : List Text) (status : ℕ) : Type 0 where
  -- the words are accepted: 64 if options can't be used together, or the plan of pauses can't be used, or this program does not do the command, otherwise the status reports what was found
  WasDone : fault_of kendo words ≡ [] → (invocation : Invocation) → IsAsked (subcommand_of kendo words) (Some invocation) → (status ≡ 64) ⊎ Reports invocation status → Obeys Reports words status
  -- they request nothing that is done
  WasNothing : fault_of kendo words ≡ [] → IsAsked (subcommand_of kendo words) None → status ≡ 64 → Obeys Reports words status
  -- they are refused, or ask for help
  WasShown : (kind : ErrorKind) → IsAmong kind (fault_of kendo words) → ShowsAs kind status → Obeys Reports words status
