use Rattle.checker.specs.Trees.{tree_in}
use Rattle.meaning.specs.Source.{source_kind}
use Rattle.output.specs.declared.piece.Kind.TheVariants.{Output, Trace}
use Rattle.syntax.specs.Spans.{tree_of}
use Rattle.kendo_base.proofs.Runs.{all_code, begins_code, nothing_begins}
use Rattle.kendo_base.proofs.running.run_typed.Goals as goal

pub returns-in_err-code-clause-begins : goal.returns-in_err-code-clause-begins
returns-in_err-code-clause-begins g c =
    nothing_begins Output (source_kind (tree_of (tree_in c.args.typed.now))) c.args.limit (g.O.Write.contents c.args.out.now)

pub returns-in_err-code-clause-traces : goal.returns-in_err-code-clause-traces
returns-in_err-code-clause-traces g c =
    nothing_begins Trace (source_kind (tree_of (tree_in c.args.typed.now))) c.args.limit (g.T.Write.contents c.args.trace.now)

pub returns-in_err-program-clause-begins : goal.returns-in_err-program-clause-begins
returns-in_err-program-clause-begins g c =
    nothing_begins Output (source_kind (tree_of (tree_in c.args.typed.now))) c.args.limit (g.O.Write.contents c.args.out.now)

pub returns-in_err-program-clause-traces : goal.returns-in_err-program-clause-traces
returns-in_err-program-clause-traces g c =
    nothing_begins Trace (source_kind (tree_of (tree_in c.args.typed.now))) c.args.limit (g.T.Write.contents c.args.trace.now)

pub returns-in_err-end-clause-begins : goal.returns-in_err-end-clause-begins
returns-in_err-end-clause-begins g c =
    begins_code Output (source_kind (tree_of (tree_in c.args.typed.now))) c.in_ok-code.code c.in_ok-program.program c.args.limit (g.O.Write.contents c.args.out.now) (g.O.Write.contents c.run_verified.new.out)
    c.in_ok-program.ensures.code c.in_ok-code.ensures.equal c.run_verified.ensures.begins

pub returns-in_err-end-clause-traces : goal.returns-in_err-end-clause-traces
returns-in_err-end-clause-traces g c =
    begins_code Trace (source_kind (tree_of (tree_in c.args.typed.now))) c.in_ok-code.code c.in_ok-program.program c.args.limit (g.T.Write.contents c.args.trace.now) (g.T.Write.contents c.run_verified.new.trace)
    c.in_ok-program.ensures.code c.in_ok-code.ensures.equal c.run_verified.ensures.traces

pub returns-clause-begins : goal.returns-clause-begins
returns-clause-begins g c =
    begins_code Output (source_kind (tree_of (tree_in c.args.typed.now))) c.in_ok-code.code c.in_ok-program.program c.args.limit (g.O.Write.contents c.args.out.now) (g.O.Write.contents c.run_verified.new.out)
    c.in_ok-program.ensures.code c.in_ok-code.ensures.equal c.run_verified.ensures.begins

pub returns-clause-traces : goal.returns-clause-traces
returns-clause-traces g c =
    begins_code Trace (source_kind (tree_of (tree_in c.args.typed.now))) c.in_ok-code.code c.in_ok-program.program c.args.limit (g.T.Write.contents c.args.trace.now) (g.T.Write.contents c.run_verified.new.trace)
    c.in_ok-program.ensures.code c.in_ok-code.ensures.equal c.run_verified.ensures.traces

pub returns-clause-whole : goal.returns-clause-whole
returns-clause-whole g c =
    all_code Output (source_kind (tree_of (tree_in c.args.typed.now))) c.in_ok-code.code c.in_ok-program.program c.args.limit (g.O.Write.contents c.args.out.now) (g.O.Write.contents c.run_verified.new.out) c.in_ok-end.end
    c.in_ok-program.ensures.code c.in_ok-code.ensures.equal c.in_ok-end.ensures.whole

pub returns-clause-traced : goal.returns-clause-traced
returns-clause-traced g c =
    all_code Trace (source_kind (tree_of (tree_in c.args.typed.now))) c.in_ok-code.code c.in_ok-program.program c.args.limit (g.T.Write.contents c.args.trace.now) (g.T.Write.contents c.run_verified.new.trace) c.in_ok-end.end
    c.in_ok-program.ensures.code c.in_ok-code.ensures.equal c.in_ok-end.ensures.traced
