-- What the comments of a program say of its run.
use Rattle.std.specs.Prelude.{◌≡◌, ◌⊎◌, ◌∷◌, ◌++◌, ◌||◌, ℕ, Bool, List, [], Option, Some, None, Err, option_map, is_some, string_bytes}
use Rattle.std.specs.Option.{option_or}
use Rattle.expected_output.specs.Comments.{IsCommented}
use Rattle.expected_output.specs.Ends.{IsCalled}
use Rattle.expected_output.specs.Saying.{Says}
use Rattle.expected_output.specs.declared.expectation.Expectation.{Expectation}
use Rattle.expected_output.specs.declared.expectation.ExpectationError.{ExpectationError}
use Rattle.expected_output.specs.declared.expectation.ExpectationError.TheVariants as errors
use Rattle.expected_output.specs.declared.expectation.ExpectedOutput.{ExpectedOutput}
use Rattle.go_text.specs.declared.fault.Fault.TheVariants as faults
use Rattle.scanner.specs.Tokens.{tokens_of}
use Rattle.word.specs.declared.end.End.{End}
use Rattle.word.specs.declared.end.End.TheVariants.{Finished}

-- the output and the end that comments say: each as the last comment says it that does
pub data AreSaid : List (List ℕ) → (output : Option (List ℕ × Bool)) → (end : Option (List ℕ)) → Type 0 where
  NothingSaid : AreSaid [] None None
  OneMore : (comments : List (List ℕ)) (output : Option (List ℕ × Bool)) (end : Option (List ℕ)) (comment : List ℕ) (its_output : Option (List ℕ × Bool)) (its_end : Option (List ℕ))
      → AreSaid comments output end → Says comment its_output its_end → AreSaid (comments ++ comment ∷ []) (option_or its_output output) (option_or its_end end)

-- the end of these words; without words a program finishes
abbrev pub IsEndOf : Option (List ℕ) → End → Type 0
IsEndOf None end = end ≡ Finished
IsEndOf (Some words) end = IsCalled words end

abbrev pub output_bytes : ExpectedOutput → List ℕ × Bool
output_bytes output = (string_bytes output.text, output.is_unordered)

-- the expectation of an output and an end that are said
pub record IsOfSaid (output : Option (List ℕ × Bool)) (end : Option (List ℕ)) (expectation : Expectation) : Type 0 where
  pub prints : option_map output_bytes expectation.output ≡ output
  pub ends : IsEndOf end expectation.end
  pub says : expectation.is_said ≡ (is_some output || is_some end)

-- the comments of the source say this
pub record IsSaidIn (text : List ℕ) (expectation : Expectation) : Type 0 where
  pub comments : List (List ℕ)
  pub output : Option (List ℕ × Bool)
  pub end : Option (List ℕ)
  pub commented : IsCommented text comments
  pub said : AreSaid comments output end
  pub is : IsOfSaid output end expectation

-- out of memory, or the words name no end
abbrev pub IsUnknownEnd : Option (List ℕ) → ExpectationError → Type 0
IsUnknownEnd words (errors.Fault fault) = fault ≡ faults.Memory
IsUnknownEnd None (errors.UnknownEnd unknown) = ⊥
IsUnknownEnd (Some words) (errors.UnknownEnd unknown) = (string_bytes unknown ≡ words) × ((end : End) → IsCalled words end → ⊥)

-- these words name no end, or out of memory
abbrev pub MatchUnknown : ExpectationError → (words : List ℕ) → Type 0
MatchUnknown (errors.Fault fault) words = fault ≡ faults.Memory
MatchUnknown (errors.UnknownEnd unknown) words = string_bytes unknown ≡ words

-- they say an end in words that name none
abbrev pub IsUnknown : (text words : List ℕ) → Type 0
IsUnknown text words =
    (comments : List (List ℕ)) × (output : Option (List ℕ × Bool)) × IsCommented text comments × AreSaid comments output (Some words) × ((end : End) → IsCalled words end → ⊥)

-- why they say nothing that can be expected: out of memory, why the source has no tokens, or an unknown end
abbrev pub IsWhyNot : (text : List ℕ) → ExpectationError → Type 0
IsWhyNot text (errors.Fault fault) = (fault ≡ faults.Memory) ⊎ (tokens_of text ≡ Err fault)
IsWhyNot text (errors.UnknownEnd words) = IsUnknown text (string_bytes words)
