-- The ends in other orders that are not expected, taken one after another.
use Rattle.std.proofs.Common.{◌≡◌, ◌⊎◌, ℕ, All, Bool, true, false, Option, Some, IfSome, List, [], ◌∷◌, ◌++◌, sym, ap, subst, ◌∙◌, arith}
use Rattle.std.proofs.lemmas.List.{map-append}
use Rattle.std.proofs.lemmas.List.Elements.{All-append, All-cons, All-head, All-tail}
use Rattle.exploration.specs.Shown.{IsEnd, IsOrdinary, IsOwn, ShownEnd}
use Rattle.exploration.specs.declared.runner.Ran.{Ran}
use Rattle.expected_output.specs.declared.expectation.Expectation.{Expectation}
use Rattle.kendo_explore.specs.Explored.{end_by, ends_by}
use Rattle.kendo_explore.specs.declared.exploring.PlanFile.{PlanFile}
use Rattle.kendo_reading.specs.Reading.{Reads}
use Rattle.kendo_test.specs.Passing.{FailsBy, Leaks, LeaksAlone, Misses}
use Rattle.program_states.specs.declared.space.Scope.{Scope}
use Rattle.syntax.specs.Tree.{File}

pub none : (P : ShownEnd → Type 0) → All P []
none P k d within = absurd (omega (arith, within))

-- the plan that comes next
pub next : (P : ShownEnd → Type 0) (plans rest : List PlanFile) (plan : PlanFile) → plans ≡ plan ∷ rest → All P (ends_by plans) → P (end_by plan)
next P plans rest plan is all = All-head P (end_by plan) (ends_by rest) (subst (λ (l : List PlanFile). All P (ends_by l)) is all)

-- those after it
pub after : (P : ShownEnd → Type 0) (plans rest : List PlanFile) (plan : PlanFile) → plans ≡ plan ∷ rest → All P (ends_by plans) → All P (ends_by rest)
after P plans rest plan is all = All-tail P (end_by plan) (ends_by rest) (subst (λ (l : List PlanFile). All P (ends_by l)) is all)

-- one more of them fails
pub one_more : (P : ShownEnd → Type 0) (old new : List PlanFile) (plan : PlanFile) → new ≡ old ++ plan ∷ [] → P (end_by plan) → All P (ends_by old) → All P (ends_by new)
one_more P old new plan grows fails all =
    subst (All P) (sym (ap ends_by grows ∙ map-append end_by old (plan ∷ []))) (All-append P (ends_by old) (end_by plan ∷ []) all (All-cons P (end_by plan) [] fails (none P)))

-- the run by a plan that shows this end fails
pub fails_by : (expectation : Expectation) (leaks : Bool) (text : List ℕ) (limit : ℕ) (file : File) (plan : PlanFile) → Reads text file → IsEnd file limit (end_by plan)
    → (plan.own_limit ≡ false) × (Misses expectation plan.end plan.output.items ⊎ Leaks leaks (end_by plan)) → FailsBy expectation leaks text limit (end_by plan)
fails_by expectation leaks text limit file plan reads ends (own, fails) =
    ((file, ends.shown.0, reads, ends.shown.2), subst (λ (own : Bool). IsOwn plan.end own) own ends.own, fails)

-- the ordinary run leaves goroutines that count
pub leaks_alone : (leaks : Bool) (text : List ℕ) (limit : ℕ) (file : File) (scope : Scope) (ordinary : Option Ran) → scope.leaks ≡ leaks → Reads text file
    → IfSome ordinary (IsOrdinary file limit scope.leaks) → (ran : Ran) × (ordinary ≡ Some ran) × (ran.leaks ≡ true) → LeaksAlone leaks text limit
leaks_alone leaks text limit file scope ordinary counts reads whole (ran, is, left) = (
  file,
  ran,
  reads,
  subst (λ (leaks : Bool). IsOrdinary file limit leaks ran) counts (subst (λ (o : Option Ran). IfSome o (IsOrdinary file limit scope.leaks)) is whole),
  left,
)
