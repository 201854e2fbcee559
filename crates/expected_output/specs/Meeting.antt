-- When a run is as expected.
use Rattle.std.specs.Prelude.{◌≡◌, ℕ, ◌==◌, Bool, true, false, List, Option, Some, None, string_bytes, IsUtf8}
use Rattle.std.specs.Str.{trim}
use Rattle.std.specs.List.{slice_split}
use Rattle.std.specs.List.Sorted.{IsPermutation}
use Rattle.word.specs.declared.end.End.{End}
use Rattle.expected_output.specs.declared.expectation.Expectation.{Expectation}
use Rattle.expected_output.specs.declared.expectation.ExpectedOutput.{ExpectedOutput}

-- two texts have the same lines, each as often
abbrev pub HaveSameLines : List ℕ → List ℕ → Type 0
HaveSameLines one other = IsPermutation (slice_split (λ b. b == 10) one) (slice_split (λ b. b == 10) other)

-- two texts are the same but for white space around them, and, if the order of lines doesn't count, for that
abbrev pub AreSame : (is_unordered : Bool) → (wanted output : List ℕ) → Type 0
AreSame true wanted output = HaveSameLines (trim wanted) (trim output)
AreSame false wanted output = trim output ≡ trim wanted

-- this output, which is UTF-8 as the comments are, is the expected one
abbrev pub IsExpected : ExpectedOutput → List ℕ → Type 0
IsExpected wanted output = IsUtf8 output × AreSame wanted.is_unordered (string_bytes wanted.text) output

abbrev pub IsExpectedIfAny : Option ExpectedOutput → List ℕ → Type 0
IsExpectedIfAny None output = Unit {0}
IsExpectedIfAny (Some wanted) output = IsExpected wanted output

-- a run that ended so, and printed this in all, is as expected
abbrev pub Meets : Expectation → End → List ℕ → Type 0
Meets expectation end output = (end ≡ expectation.end) × IsExpectedIfAny expectation.output output
