use Rattle.std.proofs.Common.{rules}
use Rattle.exploration.proofs.Holding.{of_some}
use Rattle.pauses.specs.Plans.{pauses_of}
use Rattle.exploration.proofs.shown.shown_by.Goals as goal

pub returns : goal.returns
returns c = record {
  shown = (pauses_of c.in_ok-plan.plan.pauses.items, c.in_ok-bytes_with.ensures.again (search rules), of_some _ c.in_ok-run.field-0 c.in-Some.run' c.in-Some.is c.in_ok-run.ensures.runs);
  own = of_some _ c.in_ok-run.field-0 c.in-Some.run' c.in-Some.is c.in_ok-run.ensures.own;
}
