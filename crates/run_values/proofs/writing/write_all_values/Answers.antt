use Rattle.std.proofs.Common.{subst, IfOk}
use Rattle.meaning.specs.Source.{source_kind}
use Rattle.pauses.specs.Paused.{paused}
use Rattle.pauses.specs.Plans.{pauses_of}
use Rattle.run_values.specs.Values.{HasLines}
use Rattle.syntax.specs.Tree.{File}
use Rattle.run_values.proofs.writing.write_all_values.Goals as goal

pub returns-clause-lines : goal.returns-clause-lines
returns-clause-lines g c =
    subst (λ (file : File). IfOk c.write_run.result (λ _. HasLines (paused (source_kind file) (pauses_of c.args.plan.now.pauses.items)) c.args.limit (g.W.Write.contents c.args.values.now) (g.W.Write.contents c.write_run.new.values))) c.in_ok-program.ensures c.write_run.ensures.lines
