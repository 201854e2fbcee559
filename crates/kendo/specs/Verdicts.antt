-- What an exit status says of a program.
use Rattle.std.specs.Prelude.{◌≡◌, ◌⊎◌, ◌≤◌, ℕ, Bool, true, false, not, List, Option, Some, None, Result, Ok, Err, length, map}
use Rattle.command_line.specs.declared.arguments.Invocation.{Invocation}
use Rattle.command_line.specs.declared.arguments.Subcommand.{Subcommand}
use Rattle.command_line.specs.declared.arguments.Subcommand.TheVariants as subcommands
use Rattle.exploration.specs.declared.findings.Verdict.{Verdict}
use Rattle.exploration.specs.declared.findings.Verdict.TheVariants.{Other, Same, SameSoFar, Unended, Unshown}
use Rattle.go_text.specs.declared.fault.Fault.{Fault}
use Rattle.kendo_compare.specs.Comparing.{IsCompared}
use Rattle.kendo_compare.specs.Traces.{IsTraced, IsTracedBy}
use Rattle.kendo_explore.specs.Explored.{AreShown}
use Rattle.kendo_explore.specs.declared.exploring.Explored.{Explored}
use Rattle.kendo_reading.specs.Reading.{Reads}
use Rattle.kendo_report.specs.Outcome.{report_status}
use Rattle.kendo_shell.specs.Answers.{EndsPaused, Finds, IsOfAll, IsReason}
use Rattle.kendo_test.specs.Passing.{IsRight}
use Rattle.kendo_test.specs.declared.testing.Verdict.{Verdict as TestVerdict}
use Rattle.kendo_test.specs.declared.testing.Verdict.TheVariants as tests
use Rattle.pauses.specs.Plans.{Pause}
use Rattle.program_states.specs.declared.space.Scope.{Scope}
use Rattle.syntax.specs.Tree.{File}
use Rattle.test_folders.specs.Folders.{AreTests}
use Rattle.whole_run.specs.Runs.{IsLimit, IsWorkers}
use Rattle.word.specs.declared.end.End.{End}

-- what the command finds in the text, by these pauses if it names a plan
abbrev pub FindsBy : Subcommand → List Pause → (text : List ℕ) → Result End Fault → Type 0
FindsBy (subcommands.Paused workers limit) pauses text (Ok end) = IsWorkers workers × IsLimit limit × EndsPaused text pauses limit end
FindsBy subcommand pauses text outcome = Finds subcommand text outcome

-- ---- explorations

-- which ends differ for the command
abbrev pub scope_of : Invocation → Scope
scope_of invocation = record { outputs = not invocation.ends; lines_in_order = invocation.ordered; leaks = invocation.leaks }

-- what an exploration of the text shows
abbrev pub IsExplored : Subcommand → Scope → (text : List ℕ) → Verdict → Type 0
IsExplored (subcommands.Explore limit tries states) scope text verdict =
    IsLimit limit × ((file : File) × (explored : Explored) × Reads text file × AreShown file limit scope explored × (explored.verdict ≡ verdict))
IsExplored subcommand scope text verdict = ⊥

-- that, or why there is none
abbrev pub Explores : Subcommand → Scope → (text : List ℕ) → Result Verdict Fault → Type 0
Explores subcommand scope text (Ok verdict) = IsExplored subcommand scope text verdict
Explores subcommand scope text (Err fault) = IsReason subcommand text fault

-- the status of an exploration, which with `--whole` says if not all orders were searched
abbrev pub explored_status : Verdict → (whole : Bool) → ℕ
explored_status Other whole = 8
explored_status Unshown whole = 8
explored_status Same whole = 0
explored_status Unended whole = 0
explored_status SameSoFar true = 9
explored_status SameSoFar false = 0

-- that of its outcome
abbrev pub exploration_status : Result Verdict Fault → (whole : Bool) → ℕ
exploration_status (Ok verdict) whole = explored_status verdict whole
exploration_status (Err fault) whole = report_status (Err fault)

-- ---- tests

abbrev pub passes : TestVerdict → Bool
passes (tests.Passed expectation) = true
passes (tests.Failed expectation) = false
passes (tests.Doubted expectation) = false
passes tests.Untested = false

-- a test of the text shows that it passes, or that it fails or can't be tested
abbrev pub IsTested : Subcommand → (leaks : Bool) → (text : List ℕ) → (passed : Bool) → Type 0
IsTested (subcommands.Test limit tries states) leaks text passed =
    IsLimit limit × ((verdict : TestVerdict) × IsRight verdict leaks text limit × (passed ≡ passes verdict))
IsTested subcommand leaks text passed = ⊥

-- that, or why there is none
abbrev pub Tests : Subcommand → (leaks : Bool) → (text : List ℕ) → Result Bool Fault → Type 0
Tests subcommand leaks text (Ok passed) = IsTested subcommand leaks text passed
Tests subcommand leaks text (Err fault) = IsReason subcommand text fault

abbrev pub tested_status : (passed : Bool) → ℕ
tested_status true = 0
tested_status false = 1

-- the status of the outcome of a test
abbrev pub test_status : Result Bool Fault → ℕ
test_status (Ok passed) = tested_status passed
test_status (Err fault) = report_status (Err fault)

-- ---- runs that are compared with a trace

-- the run of the text, by these pauses if the command names a plan, ends so and has this trace
abbrev pub IsTracedAs : Subcommand → List Pause → (text lines : List ℕ) → End → Type 0
IsTracedAs (subcommands.Run workers limit) pauses text lines end = IsTraced text limit lines end
IsTracedAs (subcommands.Paused workers limit) pauses text lines end = IsTracedBy pauses text limit lines end
IsTracedAs subcommand pauses text lines end = ⊥

-- the status of a run that is compared, which is `status` if it is the recorded one
abbrev pub compared_status : (is_same : Bool) → (status : ℕ) → ℕ
compared_status true status = status
compared_status false status = 8

-- the status says whether the run of the text, which ends so, is the recorded one, byte by byte or goroutine by goroutine
abbrev pub IsAgainst : Subcommand → List Pause → (strict : Bool) → (recorded text : List ℕ) → End → (status : ℕ) → Type 0
IsAgainst subcommand pauses strict recorded text end status =
    (lines : List ℕ) × (is_same : Bool) × IsTracedAs subcommand pauses text lines end × IsCompared strict recorded lines is_same
    × (status ≡ compared_status is_same (report_status (Ok end)))

-- or why it does not end
abbrev pub IsAgainstIfAny : Subcommand → List Pause → (strict : Bool) → (recorded text : List ℕ) → Result End Fault → (status : ℕ) → Type 0
IsAgainstIfAny subcommand pauses strict recorded text (Ok end) status = IsAgainst subcommand pauses strict recorded text end status
IsAgainstIfAny subcommand pauses strict recorded text (Err fault) status = status ≡ report_status (Err fault)

-- the exit status of an invocation whose run of this program, by these pauses if it names a plan, is compared with this recorded trace
abbrev pub Compares : Invocation → List Pause → (recorded text : List ℕ) → (status : ℕ) → Type 0
Compares invocation pauses recorded text status =
    (outcome : Result End Fault) × FindsBy invocation.subcommand pauses text outcome
    × IsAgainstIfAny invocation.subcommand pauses invocation.strict recorded text outcome status

-- ---- all commands

-- the status of a command that came to an end, by these pauses if it names a plan. `against` is the path of a recorded trace
abbrev pub Says : {T : Type 0} → Subcommand → Scope → (against : Option T) → (strict whole : Bool) → List Pause → (text : List ℕ) → End → (status : ℕ) → Type 0
Says (subcommands.Explore limit tries states) scope against strict whole pauses text end status =
    (verdict : Verdict) × IsExplored (subcommands.Explore limit tries states) scope text verdict × (status ≡ explored_status verdict whole)
Says (subcommands.Test limit tries states) scope against strict whole pauses text end status =
    (passed : Bool) × IsTested (subcommands.Test limit tries states) scope.leaks text passed × (status ≡ tested_status passed)
Says subcommand scope None strict whole pauses text end status = status ≡ report_status (Ok end)
Says subcommand scope (Some path) strict whole pauses text end status = (recorded : List ℕ) × IsAgainst subcommand pauses strict recorded text end status

-- or the status of why it did not
abbrev pub SaysIfAny : {T : Type 0} → Subcommand → Scope → (against : Option T) → (strict whole : Bool) → List Pause → (text : List ℕ) → Result End Fault → (status : ℕ) → Type 0
SaysIfAny subcommand scope against strict whole pauses text (Ok end) status = Says subcommand scope against strict whole pauses text end status
SaysIfAny subcommand scope against strict whole pauses text (Err fault) status = status ≡ report_status (Err fault)

-- the status of what the invocation finds
abbrev pub IsSaid : Invocation → List Pause → (text : List ℕ) → Result End Fault → (status : ℕ) → Type 0
IsSaid invocation pauses text outcome status =
    SaysIfAny invocation.subcommand (scope_of invocation) invocation.against invocation.strict invocation.whole pauses text outcome status

-- the exit status of what the invocation finds in this program, by these pauses if it names a plan
abbrev pub IsJudged : Invocation → List Pause → (text : List ℕ) → (status : ℕ) → Type 0
IsJudged invocation pauses text status =
    (outcome : Result End Fault) × FindsBy invocation.subcommand pauses text outcome × IsSaid invocation pauses text outcome status

-- the exit status of what it finds in some program, by some pauses, as the bytes of a source file and of a plan are in no contract
abbrev pub Judges : Invocation → (status : ℕ) → Type 0
Judges invocation status = (text : List ℕ) × (pauses : List Pause) × IsJudged invocation pauses text status

-- the exit status of what a command finds in its files, one after the other, if `Reports` says that of one. Tests are of the programs that the paths stand for, at least one; their status is 6 if the line that says how many passed can't be written
abbrev pub JudgesEach : Subcommand → (Reports : (status : ℕ) → Type 0) → (paths : List (List ℕ)) → (status : ℕ) → Type 0
JudgesEach (subcommands.Test limit tries states) Reports paths status =
    (programs : List (List ℕ)) × AreTests paths programs × (1 ≤ length programs) × (IsOfAll Reports (length programs) status ⊎ (status ≡ 6))
JudgesEach subcommand Reports paths status = IsOfAll Reports (length paths) status

-- the exit status of what the invocation finds in its files
abbrev pub JudgesAll : Invocation → (status : ℕ) → Type 0
JudgesAll invocation status = JudgesEach invocation.subcommand (Judges invocation) (map (λ path. path.now) invocation.files.now) status

-- whether a command tests
abbrev pub is_test : Subcommand → Bool
is_test (subcommands.Test limit tries states) = true
is_test subcommand = false

-- what a command finds that neither explores nor tests
abbrev pub FindsPlainly : Subcommand → List Pause → (text : List ℕ) → Result End Fault → Type 0
FindsPlainly (subcommands.Explore limit tries states) pauses text (Ok end) = ⊥
FindsPlainly (subcommands.Test limit tries states) pauses text (Ok end) = ⊥
FindsPlainly subcommand pauses text outcome = FindsBy subcommand pauses text outcome
