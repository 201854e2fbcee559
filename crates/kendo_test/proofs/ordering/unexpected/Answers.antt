use Rattle.std.proofs.Common.{rules, All, List, subst, sym}
use Rattle.exploration.specs.Shown.{IsEnd}
use Rattle.kendo_explore.specs.Explored.{ends_by}
use Rattle.kendo_explore.specs.declared.exploring.PlanFile.{PlanFile}
use Rattle.kendo_test.specs.Passing.{FailsBy}
use Rattle.kendo_test.proofs.Others.{after, fails_by, leaks_alone, next, none, one_more}
use Rattle.kendo_test.proofs.ordering.unexpected.Goals as goal

pub loop-plan-init : goal.loop-plan-init
loop-plan-init c text limit file reads all = (
  subst (λ (l : List PlanFile). All (IsEnd file limit) (ends_by l)) (sym c.into_iter-plan-iterator.ensures.into_iter_gives.0) all,
  subst (λ (l : List PlanFile). All (FailsBy c.args.expectation.now c.args.leaks text limit) (ends_by l)) (sym c.new-failing.ensures.items)
      (none (FailsBy c.args.expectation.now c.args.leaks text limit)),
)

pub loop-plan-preserved-in-Continue-branch-2 : goal.loop-plan-preserved-in-Continue-branch-2
loop-plan-preserved-in-Continue-branch-2 c text limit file reads all =
    let was = c.loop-plan.invariant text limit file reads all in
    let steps = c.in-Some.ensures.steps.0 in (
      after (IsEnd file limit) _ _ _ steps was.0,
      one_more (FailsBy c.args.expectation.now c.args.leaks text limit) _ _ _ c.in_ok-push.ensures.items
          (fails_by c.args.expectation.now c.args.leaks text limit file c.in-Some.plan reads (next (IsEnd file limit) _ _ _ steps was.0) (c.in_ok-is_failing.ensures (search rules)))
          was.1,
    )

pub loop-plan-preserved : goal.loop-plan-preserved
loop-plan-preserved c text limit file reads all =
    let was = c.loop-plan.invariant text limit file reads all in
    (after (IsEnd file limit) _ _ _ c.in-Some.ensures.steps.0 was.0, was.1)

pub returns : goal.returns
returns c text limit file scope counts reads shown = record {
  failing = (c.loop-plan.invariant text limit file reads shown.plans).1;
  alone = λ is. leaks_alone c.args.leaks text limit file scope c.args.explored.ordinary counts reads shown.ordinary (c.is_leaking-leaks_alone.ensures is);
}
