-- The ends that plans show, and that an exploration found.
use Rattle.std.proofs.Common.{◌≡◌, ◌↔◌, ℕ, All, true, List, [], ◌∷◌, length, map, Option, refl, ap, subst, sym, ◌∙◌, arith}
use Rattle.std.proofs.lemmas.List.{length-map}
use Rattle.exploration.specs.Shown.{AreFound, IsEnd, IsOther, ShownEnd, are_own_limits, has_other, seen}
use Rattle.exploration.specs.declared.findings.Findings.{Findings}
use Rattle.exploration.specs.declared.findings.Verdict.TheVariants.{Other, Same, Unended}
use Rattle.exploration.specs.declared.runner.Ran.{Ran}
use Rattle.exploration.specs.declared.shown.Shown.{Shown}
use Rattle.kendo_explore.specs.Explored.{AreShown, HasEnd, end_by, ends_by}
use Rattle.kendo_explore.specs.declared.exploring.Explored.{Explored}
use Rattle.kendo_explore.specs.declared.exploring.PlanFile.{PlanFile}
use Rattle.program_states.specs.declared.space.Scope.{Scope}
use Rattle.syntax.specs.Tree.{File}

empty : (plans : List PlanFile) → length plans ≡ 0 → plans ≡ []
empty [] is = refl
empty (plan ∷ plans) is = absurd (omega (arith, is))

-- no plan shows an end if none was found
none : (shown : List Shown) (plans : List PlanFile) → ends_by plans ≡ map seen shown → shown ≡ [] → plans ≡ []
none shown plans same is = empty plans (sym (length-map plans end_by) ∙ ap length same ∙ length-map shown seen ∙ ap length is)

-- what plans show of findings
pub all_shown : (file : File) (limit : ℕ) (scope : Scope) (findings : Findings) (explored : Explored) → explored.ordinary ≡ findings.ordinary
    → ends_by explored.plans.items ≡ map seen findings.shown.items
    → (explored.verdict ≡ Other) ↔ (has_other findings.ordinary (are_own_limits (map seen findings.shown.items)) ≡ true)
    → (explored.verdict ≡ Same → (findings.shown.items ≡ []) × HasEnd findings.ordinary)
    → (explored.verdict ≡ Unended → findings.shown.items ≡ []) → AreFound file limit scope findings → AreShown file limit scope explored
all_shown file limit scope findings explored ordinary same other same_only unended_only found = record {
  ordinary = rw ordinary found.ordinary;
  lasts = rw ordinary found.lasts;
  plans = subst (All (IsEnd file limit)) (sym same) found.shown;
  others = subst (All (IsOther scope explored.ordinary)) (sym same) (subst (λ (o : Option Ran). All (IsOther scope o) (map seen findings.shown.items)) (sym ordinary) found.others);
  other =
      subst (λ (o : Option Ran). (explored.verdict ≡ Other) ↔ (has_other o (are_own_limits (ends_by explored.plans.items)) ≡ true)) (sym ordinary)
      (subst (λ (l : List ShownEnd). (explored.verdict ≡ Other) ↔ (has_other findings.ordinary (are_own_limits l) ≡ true)) (sym same) other);
  same = λ is. (none findings.shown.items explored.plans.items same (same_only is).0, subst HasEnd (sym ordinary) (same_only is).1);
  unended = λ is. none findings.shown.items explored.plans.items same (unended_only is);
}
