-- What an exploration hands out.
use Rattle.std.specs.Prelude.{◌≡◌, ◌↔◌, ℕ, All, false, true, List, [], map, IfNone, IfSome, Option, Some}
use Rattle.exploration.specs.Shown.{IsEnd, IsOrdinary, IsOther, LastsLong, ShownEnd, are_own_limits, has_other}
use Rattle.exploration.specs.declared.findings.Verdict.TheVariants.{Other, Same, Unended}
use Rattle.exploration.specs.declared.runner.Ran.{Ran}
use Rattle.kendo_explore.specs.declared.exploring.Explored.{Explored}
use Rattle.kendo_explore.specs.declared.exploring.PlanFile.{PlanFile}
use Rattle.program_states.specs.declared.space.Scope.{Scope}
use Rattle.syntax.specs.Tree.{File}

-- the end that a plan shows
abbrev pub end_by : PlanFile → ShownEnd
end_by plan = record { plan = plan.bytes.items; output = plan.output.items; end = plan.end; own_limit = plan.own_limit; leaks = plan.leaks }

abbrev pub ends_by : List PlanFile → List ShownEnd
ends_by plans = map end_by plans

-- there is an ordinary end, and it is no limit of kendo's own
abbrev pub HasEnd : Option Ran → Type 0
HasEnd ordinary = (ran : Ran) × (ordinary ≡ Some ran) × (ran.own_limit ≡ false)

-- The ordinary end is that of the one-thread run; if there is none, that run does not end soon. The end that a plan shows is that of the run by it, and another one. The verdict is
-- `Other` exactly if the ordinary end is an error, or an end that a plan shows is no limit of kendo's own. It is `Same` only if there is an
-- ordinary end that is no limit, and no plan.
pub record AreShown (file : File) (limit : ℕ) (scope : Scope) (explored : Explored) : Type 0 where
  pub ordinary : IfSome explored.ordinary (IsOrdinary file limit scope.leaks)
  pub lasts : IfNone explored.ordinary (LastsLong file limit)
  pub plans : All (IsEnd file limit) (ends_by explored.plans.items)
  pub others : All (IsOther scope explored.ordinary) (ends_by explored.plans.items)
  pub other : (explored.verdict ≡ Other) ↔ (has_other explored.ordinary (are_own_limits (ends_by explored.plans.items)) ≡ true)
  pub same : explored.verdict ≡ Same → (explored.plans.items ≡ []) × HasEnd explored.ordinary
  pub unended : explored.verdict ≡ Unended → explored.plans.items ≡ []
