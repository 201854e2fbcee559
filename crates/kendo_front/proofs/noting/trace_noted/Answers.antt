use Rattle.std.proofs.Common.{IfOk, subst}
use Rattle.syntax.specs.Tree.{File}
use Rattle.meaning.specs.Source.{source_kind}
use Rattle.pauses.specs.Paused.{paused}
use Rattle.pauses.specs.Plans.{pauses_of}
use Rattle.tracer.specs.Trace.{BeginsTrace, IsWholeTrace}
use Rattle.whole_run.specs.Runs.{BeginsOutput, IsWhole}
use Rattle.kendo_front.proofs.noting.trace_noted.Goals as goal

pub returns-clause-begins : goal.returns-clause-begins
returns-clause-begins g c =
    subst (λ (file : File). BeginsOutput (paused (source_kind file) (pauses_of c.args.plan.now.pauses.items)) c.args.limit (g.O.Write.contents c.args.out.now) (g.O.Write.contents c.run_traced.new.output)) c.in_ok-program.ensures c.run_traced.ensures.begins

pub returns-clause-traces : goal.returns-clause-traces
returns-clause-traces g c =
    subst (λ (file : File). BeginsTrace (paused (source_kind file) (pauses_of c.args.plan.now.pauses.items)) c.args.limit (g.T.Write.contents c.args.trace.now) (g.T.Write.contents c.run_traced.new.trace)) c.in_ok-program.ensures c.run_traced.ensures.traces

pub returns-clause-whole : goal.returns-clause-whole
returns-clause-whole g c =
    subst (λ (file : File). IfOk c.run_traced.result (λ end. IsWhole (paused (source_kind file) (pauses_of c.args.plan.now.pauses.items)) c.args.limit (g.O.Write.contents c.args.out.now) (g.O.Write.contents c.run_traced.new.output) end)) c.in_ok-program.ensures c.run_traced.ensures.whole

pub returns-clause-traced : goal.returns-clause-traced
returns-clause-traced g c =
    subst (λ (file : File). IfOk c.run_traced.result (λ end. IsWholeTrace (paused (source_kind file) (pauses_of c.args.plan.now.pauses.items)) c.args.limit (g.T.Write.contents c.args.trace.now) (g.T.Write.contents c.run_traced.new.trace) end)) c.in_ok-program.ensures c.run_traced.ensures.traced
