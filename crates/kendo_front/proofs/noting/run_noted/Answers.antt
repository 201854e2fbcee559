use Rattle.std.proofs.Common.{IfOk, subst}
use Rattle.syntax.specs.Tree.{File}
use Rattle.meaning.specs.Source.{source_kind}
use Rattle.pauses.specs.Paused.{paused}
use Rattle.pauses.specs.Plans.{pauses_of}
use Rattle.whole_run.specs.Runs.{BeginsOutput, IsWhole}
use Rattle.kendo_front.proofs.noting.run_noted.Goals as goal

pub returns-clause-begins : goal.returns-clause-begins
returns-clause-begins g c =
    subst (λ (file : File). BeginsOutput (paused (source_kind file) (pauses_of c.args.plan.now.pauses.items)) c.args.limit (g.O.Write.contents c.args.out.now) (g.O.Write.contents c.run.new.output)) c.in_ok-program.ensures c.run.ensures.begins

pub returns-clause-whole : goal.returns-clause-whole
returns-clause-whole g c =
    subst (λ (file : File). IfOk c.run.result (λ end. IsWhole (paused (source_kind file) (pauses_of c.args.plan.now.pauses.items)) c.args.limit (g.O.Write.contents c.args.out.now) (g.O.Write.contents c.run.new.output) end)) c.in_ok-program.ensures c.run.ensures.whole
