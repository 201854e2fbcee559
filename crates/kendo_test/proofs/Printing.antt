-- What a writer holds that began with nothing.
use Rattle.std.proofs.Common.{◌≡◌, ℕ, List, [], ◌++◌, None, sym, ap, subst, ◌∙◌}
use Rattle.expected_output.specs.Meeting.{IsExpectedIfAny}
use Rattle.expected_output.specs.declared.expectation.Expectation.{Expectation}
use Rattle.kendo_test.specs.Passing.{Passes, Prints}
use Rattle.word.specs.declared.end.End.{End}

pub all_printed : (old output new kept : List ℕ) → old ≡ [] → new ≡ old ++ output → kept ≡ new → output ≡ kept
all_printed old output new kept empty grows same = sym (same ∙ (grows ∙ ap (λ (o : List ℕ). o ++ output) empty))

-- a run that ended as expected, if no output is expected
pub met_alone : (expectation : Expectation) (text : List ℕ) (limit : ℕ) (end : End) → expectation.output ≡ None → end ≡ expectation.end
    → (output : List ℕ) × Prints text limit output end → Passes expectation text limit
met_alone expectation text limit end none is (output, prints) =
    (output, end, prints, (is, subst (λ wanted. IsExpectedIfAny wanted output) (sym none) tt))
