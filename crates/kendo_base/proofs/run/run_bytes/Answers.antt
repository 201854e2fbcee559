use Rattle.std.proofs.Common.{inr}
use Rattle.std.proofs.lemmas.Result.{err_from_is_err_and, IfOk-weaker}
use Rattle.checker.specs.Trees.{tree_in}
use Rattle.syntax.specs.Spans.{tree_of}
use Rattle.kendo_base.proofs.run.run_bytes.Goals as goal

pub returns-in_err-_source-clause-refused : goal.returns-in_err-_source-clause-refused
returns-in_err-_source-clause-refused g c =
    let p = err_from_is_err_and c.from_residual.result c.from_residual.ensures.1 in
    rw (p.1, p.2) c.in_err-_source.ensures.refused

pub returns-clause-begins : goal.returns-clause-begins
returns-clause-begins g c = inr (tree_of (tree_in c.in_ok-_source.typed), c.in_ok-_source.ensures.reads, c.run_typed.ensures.begins)

pub returns-clause-traces : goal.returns-clause-traces
returns-clause-traces g c = inr (tree_of (tree_in c.in_ok-_source.typed), c.in_ok-_source.ensures.reads, c.run_typed.ensures.traces)

pub returns-clause-whole : goal.returns-clause-whole
returns-clause-whole g c = IfOk-weaker c.run_typed.result _ _ (λ end whole. (tree_of (tree_in c.in_ok-_source.typed), c.in_ok-_source.ensures.reads, whole)) c.run_typed.ensures.whole

pub returns-clause-traced : goal.returns-clause-traced
returns-clause-traced g c = IfOk-weaker c.run_typed.result _ _ (λ end traced. (tree_of (tree_in c.in_ok-_source.typed), c.in_ok-_source.ensures.reads, traced)) c.run_typed.ensures.traced
