-- When a program passes its test, and when it fails.
use Rattle.std.specs.Prelude.{◌≡◌, ◌⊎◌, ◌≤◌, ℕ, All, Bool, true, false, List, Option, None, Some, Vec, length, string_bytes}
use Rattle.std.specs.Global.{Global}
use Rattle.expected_output.specs.Expecting.{IsSaidIn, IsUnknown}
use Rattle.expected_output.specs.Meeting.{Meets}
use Rattle.expected_output.specs.declared.expectation.Expectation.{Expectation}
use Rattle.exploration.specs.Shown.{IsOrdinary, IsOwn, RunsBy, ShownEnd}
use Rattle.exploration.specs.declared.runner.Ran.{Ran}
use Rattle.expected_output.specs.declared.expectation.ExpectationError.{ExpectationError}
use Rattle.expected_output.specs.declared.expectation.ExpectationError.TheVariants as errors
use Rattle.expected_output.specs.declared.printed.TheConstants.{MOST_BYTES}
use Rattle.go_text.specs.declared.fault.Fault.TheVariants as faults
use Rattle.kendo_reading.specs.Reading.{HasNoReading, Reads}
use Rattle.kendo_explore.specs.Explored.{ends_by}
use Rattle.kendo_test.specs.declared.ordering.Found.{Found}
use Rattle.kendo_test.specs.declared.testing.Verdict.{Verdict}
use Rattle.kendo_test.specs.declared.updating.Updated.{Updated}
use Rattle.kendo_test.specs.declared.testing.Verdict.TheVariants.{Passed, Failed, Doubted, Untested}
use Rattle.meaning.specs.Source.{source_kind}
use Rattle.pauses.specs.Plans.{Pause}
use Rattle.syntax.specs.Tree.{File}
use Rattle.word.specs.declared.end.End.{End}
use Rattle.word.specs.declared.end.End.TheVariants.{Finished}
use Rattle.word.specs.Worlds.{end_of, moment}

-- the one-thread run of the text's reading, up to this limit, prints this in all, and ends so
abbrev pub Prints : (text : List ℕ) → (limit : ℕ) → (output : List ℕ) → End → Type 0
Prints text limit output end =
    (file : File) × (n : ℕ) × Reads text file × ((moment (source_kind file) limit n).shared.shared.output ≡ output)
    × (end_of (moment (source_kind file) limit n) ≡ Some end)

-- that run prints in all what is expected, and ends as is expected
abbrev pub Passes : Expectation → (text : List ℕ) → (limit : ℕ) → Type 0
Passes expectation text limit = (output : List ℕ) × (end : End) × Prints text limit output end × Meets expectation end output

-- with some pauses it prints this in all, and ends so
abbrev pub PrintsPaused : (text : List ℕ) → (limit : ℕ) → (output : List ℕ) → End → Type 0
PrintsPaused text limit output end = (file : File) × (pauses : List Pause) × Reads text file × RunsBy file limit pauses output end

-- a run that ended so, and printed this in all, is not as expected
abbrev pub Misses : Expectation → End → List ℕ → Type 0
Misses expectation end output = Meets expectation end output → ⊥

-- the run is not as expected
abbrev pub FailsAlone : Expectation → (text : List ℕ) → (limit : ℕ) → Type 0
FailsAlone expectation text limit = (output : List ℕ) × (end : End) × Prints text limit output end × Misses expectation end output

-- `main` returns, and goroutines that are left count
abbrev pub Leaks : (leaks : Bool) → ShownEnd → Type 0
Leaks leaks one = (leaks ≡ true) × (one.leaks ≡ true) × (one.end ≡ Finished)

-- the run by the plan that shows this end, which is no limit of kendo's own, is not as expected, or leaves goroutines that count
abbrev pub FailsBy : Expectation → (leaks : Bool) → (text : List ℕ) → (limit : ℕ) → ShownEnd → Type 0
FailsBy expectation leaks text limit one =
    PrintsPaused text limit one.output one.end × IsOwn one.end false × (Misses expectation one.end one.output ⊎ Leaks leaks one)

-- the run leaves goroutines that count
abbrev pub LeaksAlone : (leaks : Bool) → (text : List ℕ) → (limit : ℕ) → Type 0
LeaksAlone leaks text limit = (file : File) × (ran : Ran) × Reads text file × IsOrdinary file limit leaks ran × (ran.leaks ≡ true)

abbrev pub Fails : Expectation → (leaks : Bool) → (text : List ℕ) → (limit : ℕ) → Type 0
Fails expectation leaks text limit =
    FailsAlone expectation text limit ⊎ (LeaksAlone leaks text limit ⊎ ((one : ShownEnd) × FailsBy expectation leaks text limit one))

-- each of these plans shows that a program fails, or its run leaves goroutines that count
pub record IsFound (expectation : Expectation) (leaks : Bool) (text : List ℕ) (limit : ℕ) (found : Found) : Type 0 where
  pub failing : All (FailsBy expectation leaks text limit) (ends_by found.failing.items)
  pub alone : found.leaks_alone ≡ true → LeaksAlone leaks text limit

-- the one-thread run prints at least as much as is compared at most
abbrev pub PrintsTooMuch : (text : List ℕ) → (limit : ℕ) → Type 0
PrintsTooMuch text limit = (file : File) × (n : ℕ) × Reads text file × (MOST_BYTES ≤ length (moment (source_kind file) limit n).shared.shared.output)

-- the text has no reading, its comments say an end in words that name none, or it prints too much
abbrev pub CannotBeTested : (text : List ℕ) → (limit : ℕ) → Type 0
CannotBeTested text limit = HasNoReading text ⊎ (((words : List ℕ) × IsUnknown text words) ⊎ PrintsTooMuch text limit)

-- why it is not known what the comments say: out of memory, or the text has no reading, or they say an end in words that name none
abbrev pub IsUntold : (text : List ℕ) → ExpectationError → Type 0
IsUntold text (errors.Fault fault) = (fault ≡ faults.Memory) ⊎ HasNoReading text
IsUntold text (errors.UnknownEnd words) = IsUnknown text (string_bytes words)

-- By this expectation a text that is said to pass passes, and one that is said to fail fails. The run of one that is doubted passes; the
-- search found another order that fails, and no run shows it.
abbrev pub IsRightBy : Expectation → Verdict → (leaks : Bool) → (text : List ℕ) → (limit : ℕ) → Type 0
IsRightBy expectation (Passed by) leaks text limit = (by ≡ expectation) × Passes expectation text limit
IsRightBy expectation (Failed by) leaks text limit = (by ≡ expectation) × Fails expectation leaks text limit
IsRightBy expectation (Doubted by) leaks text limit = (by ≡ expectation) × Passes expectation text limit
IsRightBy expectation Untested leaks text limit = CannotBeTested text limit

-- so it is by what the comments of the text say
abbrev pub IsRight : Verdict → (leaks : Bool) → (text : List ℕ) → (limit : ℕ) → Type 0
IsRight (Passed expectation) leaks text limit = IsSaidIn text expectation × Passes expectation text limit
IsRight (Failed expectation) leaks text limit = IsSaidIn text expectation × Fails expectation leaks text limit
IsRight (Doubted expectation) leaks text limit = IsSaidIn text expectation × Passes expectation text limit
IsRight Untested leaks text limit = CannotBeTested text limit

-- the verdict on a program whose comments were brought up to date is right: on the new text, which passes, if it has new comments
abbrev pub IsUpdatedTo : (text : List ℕ) → (leaks : Bool) → (limit : ℕ) → Verdict → Option (Vec ℕ Global) → Type 0
IsUpdatedTo text leaks limit verdict None = IsRight verdict leaks text limit
IsUpdatedTo text leaks limit verdict (Some new) = (expectation : Expectation) × (verdict ≡ Passed expectation) × IsSaidIn new.items expectation × Passes expectation new.items limit

abbrev pub IsUpdated : (text : List ℕ) → (leaks : Bool) → (limit : ℕ) → Updated → Type 0
IsUpdated text leaks limit updated = IsUpdatedTo text leaks limit updated.tested.verdict updated.text
