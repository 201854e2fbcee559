use Rattle.std.proofs.Common.{[], Some, subst}
use Rattle.exploration.proofs.Holding.{of_none, of_some}
use Rattle.exploration.specs.Shown.{Lasts}
use Rattle.meaning.specs.Source.{source_kind}
use Rattle.syntax.specs.Tree.{File}
use Rattle.whole_run.specs.Runs.{IsWhole}
use Rattle.exploration.proofs.runner.Runner.ordinary.Goals as goal

pub returns-in-Some-clause-ends : goal.returns-in-Some-clause-ends
returns-in-Some-clause-ends c = record {
  whole = rw (c.ran_of.ensures.end, c.ran_of.ensures.output)
      (subst (λ (file : File). IsWhole (source_kind file) c.args.self.now.limit (Some []) (Some c.in-Some.run'.output.items) c.in-Some.run'.ended.end) c.in_ok-program_of.ensures
      (of_some _ c.in_ok-run.field-0 c.in-Some.run' c.in-Some.is c.in_ok-run.ensures.whole));
  own = c.ran_of.ensures.own;
  left = c.ran_of.ensures.leaks;
}

pub returns-clause-lasts : goal.returns-clause-lasts
returns-clause-lasts c =
    subst (λ (file : File). Lasts file c.args.self.now.limit c.args.most) c.in_ok-program_of.ensures (of_none _ c.in_ok-run.field-0 c.in-None.is c.in_ok-run.ensures.lasts)
