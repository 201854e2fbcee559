-- Verdicts are right.
use Rattle.std.proofs.Common.{◌≡◌, ◌⊎◌, ◌∙◌, Bool, true, inl, inr, ℕ, ◌<◌, All, List, [], ◌∷◌, Result, Ok, Err, IfOk, length, refl, sym, subst, arith, string_bytes}
use Rattle.kendo_explore.specs.Explored.{end_by, ends_by}
use Rattle.kendo_explore.specs.declared.exploring.PlanFile.{PlanFile}
use Rattle.exploration.specs.Shown.{ShownEnd}
use Rattle.expected_output.specs.declared.expectation.Expectation.{Expectation}
use Rattle.expected_output.specs.Expecting.{IsSaidIn, IsUnknown, IsWhyNot}
use Rattle.expected_output.specs.declared.expectation.ExpectationError.{ExpectationError}
use Rattle.expected_output.specs.declared.expectation.ExpectationError.TheVariants as errors
use Rattle.go_text.specs.declared.fault.Fault.{Fault}
use Rattle.go_text.specs.declared.fault.Fault.TheVariants as faults
use Rattle.kendo_reading.specs.Reading.{HasNoReading, IsOfText, IsRefusal, Reads}
use Rattle.kendo_test.specs.Passing.{CannotBeTested, Fails, FailsBy, IsFound, IsRight, IsRightBy, IsUntold, PrintsTooMuch}
use Rattle.scanner.specs.Tokens.{tokens_of}
use Rattle.syntax.specs.Tree.{File}
use Rattle.kendo_test.specs.declared.ordering.Found.{Found}
use Rattle.kendo_test.specs.declared.testing.Tested.{Tested}
use Rattle.kendo_test.specs.declared.testing.Verdict.{Verdict}
use Rattle.kendo_test.specs.declared.testing.Verdict.TheVariants.{Doubted, Failed, Passed, Untested}

-- why a test was left by this fault
of_fault : (text : List ℕ) (limit : ℕ) (fault : Fault) → IsRefusal fault ⊎ ((fault ≡ faults.Memory) ⊎ (fault ≡ faults.Write)) → (fault ≡ faults.Memory → ⊥) → (IsRefusal fault → HasNoReading text)
    → (fault ≡ faults.Write → PrintsTooMuch text limit) → CannotBeTested text limit
of_fault text limit fault (inl is) other refused much = inl (refused is)
of_fault text limit fault (inr (inl is)) other refused much = absurd (other is)
of_fault text limit fault (inr (inr is)) other refused much = inr (inr (much is))

-- a text that has no reading, or prints too much
pub refused_is_right : {E : Type 0} (result : Result Tested E) (expectation : Expectation) (leaks : Bool) (text : List ℕ) (limit : ℕ) (fault : Fault) → IfOk result (λ tested. tested.verdict ≡ Untested)
    → IfOk result (λ _. fault ≡ faults.Memory → ⊥) → IsRefusal fault ⊎ ((fault ≡ faults.Memory) ⊎ (fault ≡ faults.Write)) → (IsRefusal fault → HasNoReading text)
    → (fault ≡ faults.Write → PrintsTooMuch text limit) → IfOk result (λ tested. IsRightBy expectation tested.verdict leaks text limit)
refused_is_right (Ok tested) expectation leaks text limit fault is other only refused much =
    subst (λ (v : Verdict). IsRightBy expectation v leaks text limit) (sym is) (of_fault text limit fault only other refused much)
refused_is_right (Err error) expectation leaks text limit fault is other only refused much = tt

unread : (text : List ℕ) (limit : ℕ) (fault : Fault) → (fault ≡ faults.Memory → ⊥) → (fault ≡ faults.Memory) ⊎ HasNoReading text → CannotBeTested text limit
unread text limit fault other (inl is) = absurd (other is)
unread text limit fault other (inr none) = inl none

-- a text whose comments can't be read
pub unread_is_right : {E : Type 0} (result : Result Tested E) (leaks : Bool) (text : List ℕ) (limit : ℕ) (fault : Fault) → IfOk result (λ tested. tested.verdict ≡ Untested)
    → IfOk result (λ _. fault ≡ faults.Memory → ⊥) → (fault ≡ faults.Memory) ⊎ HasNoReading text → IfOk result (λ tested. IsRight tested.verdict leaks text limit)
unread_is_right (Ok tested) leaks text limit fault is other why = subst (λ (v : Verdict). IsRight v leaks text limit) (sym is) (unread text limit fault other why)
unread_is_right (Err error) leaks text limit fault is other why = tt

-- a text whose comments say an unknown end
pub unknown_is_right : {E : Type 0} (result : Result Tested E) (leaks : Bool) (text : List ℕ) (limit : ℕ) (words : List ℕ) → IfOk result (λ tested. tested.verdict ≡ Untested)
    → IsUnknown text words → IfOk result (λ tested. IsRight tested.verdict leaks text limit)
unknown_is_right (Ok tested) leaks text limit words is unknown = subst (λ (v : Verdict). IsRight v leaks text limit) (sym is) (inr (inl (words, unknown)))
unknown_is_right (Err error) leaks text limit words is unknown = tt

pub failed_is_right : {E : Type 0} (result : Result Tested E) (expectation : Expectation) (leaks : Bool) (text : List ℕ) (limit : ℕ)
    → IfOk result (λ tested. tested.verdict ≡ Failed expectation) → Fails expectation leaks text limit → IfOk result (λ tested. IsRightBy expectation tested.verdict leaks text limit)
failed_is_right (Ok tested) expectation leaks text limit is fails = subst (λ (v : Verdict). IsRightBy expectation v leaks text limit) (sym is) (refl, fails)
failed_is_right (Err error) expectation leaks text limit is fails = tt

of_verdict : (verdict : Verdict) (expectation : Expectation) (leaks : Bool) (text : List ℕ) (limit : ℕ) → IsSaidIn text expectation → IsRightBy expectation verdict leaks text limit
    → IsRight verdict leaks text limit
of_verdict (Passed by) expectation leaks text limit said (is, passes) = subst (λ (e : Expectation). IsRight (Passed e) leaks text limit) (sym is) (said, passes)
of_verdict (Failed by) expectation leaks text limit said (is, fails) = subst (λ (e : Expectation). IsRight (Failed e) leaks text limit) (sym is) (said, fails)
of_verdict (Doubted by) expectation leaks text limit said (is, passes) = subst (λ (e : Expectation). IsRight (Doubted e) leaks text limit) (sym is) (said, passes)
of_verdict Untested expectation leaks text limit said right = right

pub right_by_any : {E : Type 0} (result : Result Tested E) (expectation : Expectation) (leaks : Bool) (text : List ℕ) (limit : ℕ) → IsSaidIn text expectation
    → IfOk result (λ tested. IsRightBy expectation tested.verdict leaks text limit) → IfOk result (λ tested. IsRight tested.verdict leaks text limit)
right_by_any (Ok tested) expectation leaks text limit said right = of_verdict tested.verdict expectation leaks text limit said right
right_by_any (Err error) expectation leaks text limit said right = tt

-- ---- what the comments say

-- the fault of the comments of a text that has a reading
pub of_comments : (text : List ℕ) (fault : Fault) (file : File) → Reads text file → (fault ≡ faults.Memory) ⊎ (tokens_of text ≡ Err fault) → (fault ≡ faults.Memory) ⊎ HasNoReading text
of_comments text fault file reads (inl is) = inl is
of_comments text fault file reads (inr none) = let both : Ok reads.tokens ≡ Err fault = sym reads.scanned ∙ none in absurd cc

pub untold_of : (text seen : List ℕ) (error : ExpectationError) (file : File) → seen ≡ text → Reads text file → IsWhyNot seen error → IsUntold text error
untold_of text seen (errors.Fault fault) file is reads why = of_comments text fault file reads (subst (λ t. (fault ≡ faults.Memory) ⊎ (tokens_of t ≡ Err fault)) is why)
untold_of text seen (errors.UnknownEnd words) file is reads why = subst (λ t. IsUnknown t (string_bytes words)) is why

pub unread_of : (text : List ℕ) (fault : Fault) → IsOfText fault → (IsRefusal fault → HasNoReading text) → IsUntold text (errors.Fault fault)
unread_of text fault (inl is) refused = inr (refused is)
unread_of text fault (inr is) refused = inl is

-- the first of these plans shows that a program fails
first : (expectation : Expectation) (leaks : Bool) (text : List ℕ) (limit : ℕ) (plans : List PlanFile) → 0 < length plans
    → All (FailsBy expectation leaks text limit) (ends_by plans) → (one : ShownEnd) × FailsBy expectation leaks text limit one
first expectation leaks text limit [] some fail = absurd (omega (arith, some))
first expectation leaks text limit (plan ∷ plans) some fail = (end_by plan, fail 0 (end_by plan) (omega arith))

-- what was found shows that a program fails
pub found_fails : (expectation : Expectation) (leaks : Bool) (text : List ℕ) (limit : ℕ) (found : Found) → IsFound expectation leaks text limit found
    → (found.leaks_alone ≡ true) ⊎ (0 < length found.failing.items) → Fails expectation leaks text limit
found_fails expectation leaks text limit found is (inl alone) = inr (inl (is.alone alone))
found_fails expectation leaks text limit found is (inr some) = inr (inr (first expectation leaks text limit found.failing.items some is.failing))
