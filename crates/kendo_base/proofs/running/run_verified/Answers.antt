use Rattle.std.specs.Arc.{arc_value}
use Rattle.bytecode.specs.Machine.{code_kind}
use Rattle.output.specs.declared.piece.Kind.TheVariants.{Output, Trace}
use Rattle.kendo_base.proofs.Runs.{all_of, begins_of, nothing_begins}
use Rattle.kendo_base.proofs.running.run_verified.Goals as goal

-- nothing is written yet
pub returns-in_err-program-clause-begins : goal.returns-in_err-program-clause-begins
returns-in_err-program-clause-begins g c = nothing_begins Output (code_kind c.args.program) c.args.limit (g.O.Write.contents c.args.out.now)

pub returns-in_err-program-clause-traces : goal.returns-in_err-program-clause-traces
returns-in_err-program-clause-traces g c = nothing_begins Trace (code_kind c.args.program) c.args.limit (g.T.Write.contents c.args.trace.now)

pub returns-clause-begins : goal.returns-clause-begins
returns-clause-begins g c =
    begins_of Output c.args.program (arc_value c.in_ok-program.program) c.args.limit (g.O.Write.contents c.args.out.now) (g.O.Write.contents c.run.new.out) c.in_ok-program.ensures.ok c.run.ensures.begins

pub returns-clause-traces : goal.returns-clause-traces
returns-clause-traces g c =
    begins_of Trace c.args.program (arc_value c.in_ok-program.program) c.args.limit (g.T.Write.contents c.args.trace.now) (g.T.Write.contents c.run.new.trace) c.in_ok-program.ensures.ok c.run.ensures.traces

pub returns-clause-whole : goal.returns-clause-whole
returns-clause-whole g c =
    all_of Output c.args.program (arc_value c.in_ok-program.program) c.args.limit (g.O.Write.contents c.args.out.now) (g.O.Write.contents c.run.new.out) c.run.result c.in_ok-program.ensures.ok c.run.ensures.whole

pub returns-clause-traced : goal.returns-clause-traced
returns-clause-traced g c =
    all_of Trace c.args.program (arc_value c.in_ok-program.program) c.args.limit (g.T.Write.contents c.args.trace.now) (g.T.Write.contents c.run.new.trace) c.run.result c.in_ok-program.ensures.ok c.run.ensures.traced
