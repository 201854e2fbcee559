use Rattle.std.proofs.Common.{map, refl, ap, ◌∙◌}
use Rattle.exploration.specs.Shown.{seen}
use Rattle.kendo_explore.proofs.Plans.{all_shown}
use Rattle.kendo_explore.proofs.exploring.told.Goals as goal

pub returns : goal.returns
returns c file limit scope found =
    all_shown file limit scope _ _ refl (c.in_ok-plans.ensures ∙ ap (map seen) c.as_slice.ensures.value) c.verdict-verdict.ensures.other c.verdict-verdict.ensures.same c.verdict-verdict.ensures.unended found
