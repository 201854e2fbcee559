use Rattle.std.proofs.Common.{ℕ, subst}
use Rattle.std.specs.Arc.{arc_value}
use Rattle.bytecode.specs.Code.{Code}
use Rattle.book.specs.Runs.{ComesOf, output_run, trace_run}
use Rattle.bytecode.specs.Machine.{code_kind}
use Rattle.book.proofs.Pieces.{appends_none, read_begins, read_whole}
use Rattle.worker_pool.proofs.pool.run.Goals as goal

pub returns-then-workers-lt1-clause-begins : goal.returns-then-workers-lt1-clause-begins
returns-then-workers-lt1-clause-begins g c = (0, 0, appends_none _)

pub returns-then-workers-lt1-clause-traces : goal.returns-then-workers-lt1-clause-traces
returns-then-workers-lt1-clause-traces g c = (0, 0, appends_none _)

pub returns-then-limit-lt1-clause-begins : goal.returns-then-limit-lt1-clause-begins
returns-then-limit-lt1-clause-begins g c = (0, 0, appends_none _)

pub returns-then-limit-lt1-clause-traces : goal.returns-then-limit-lt1-clause-traces
returns-then-limit-lt1-clause-traces g c = (0, 0, appends_none _)

pub returns-in_err-start-clause-begins : goal.returns-in_err-start-clause-begins
returns-in_err-start-clause-begins g c = (0, 0, appends_none _)

pub returns-in_err-start-clause-traces : goal.returns-in_err-start-clause-traces
returns-in_err-start-clause-traces g c = (0, 0, appends_none _)

pub returns-clause-begins : goal.returns-clause-begins
returns-clause-begins g c =
    let run = c.in_ok-start.ensures.run in
    let known = g.O.Write.contents c.args.out.now in
    let new = g.O.Write.contents c.run_named.new.out in
    let came = subst (λ (code : Code). ComesOf (output_run code c.args.limit) known new c.run_named.result) run.0 (subst (λ (l : ℕ). ComesOf (output_run (arc_value c.in_ok-start.start.program) l) known new c.run_named.result) run.1 c.run_named.ensures.output) in
    came.begins

pub returns-clause-whole : goal.returns-clause-whole
returns-clause-whole g c =
    let run = c.in_ok-start.ensures.run in
    let known = g.O.Write.contents c.args.out.now in
    let new = g.O.Write.contents c.run_named.new.out in
    let came = subst (λ (code : Code). ComesOf (output_run code c.args.limit) known new c.run_named.result) run.0 (subst (λ (l : ℕ). ComesOf (output_run (arc_value c.in_ok-start.start.program) l) known new c.run_named.result) run.1 c.run_named.ensures.output) in
    came.all

pub returns-clause-traces : goal.returns-clause-traces
returns-clause-traces g c =
    let run = c.in_ok-start.ensures.run in
    let known = g.T.Write.contents c.args.trace.now in
    let new = g.T.Write.contents c.run_named.new.trace in
    read_begins c.is_read-traces.result (code_kind (arc_value c.args.program)) c.args.limit known new c.is_read-traces.ensures (λ kept.
    let came = subst (λ (code : Code). ComesOf (trace_run code c.args.limit) known new c.run_named.result) run.0 (subst (λ (l : ℕ). ComesOf (trace_run (arc_value c.in_ok-start.start.program) l) known new c.run_named.result) run.1 (c.run_named.ensures.trace kept)) in
    came.begins)

pub returns-clause-traced : goal.returns-clause-traced
returns-clause-traced g c =
    let run = c.in_ok-start.ensures.run in
    let out = g.O.Write.contents c.args.out.now in
    let written = g.O.Write.contents c.run_named.new.out in
    let known = g.T.Write.contents c.args.trace.now in
    let new = g.T.Write.contents c.run_named.new.trace in
    let output = subst (λ (code : Code). ComesOf (output_run code c.args.limit) out written c.run_named.result) run.0 (subst (λ (l : ℕ). ComesOf (output_run (arc_value c.in_ok-start.start.program) l) out written c.run_named.result) run.1 c.run_named.ensures.output) in
    read_whole c.is_read-traces.result (code_kind (arc_value c.args.program)) c.args.limit out written known new c.run_named.result c.is_read-traces.ensures output.all (λ kept.
    let came = subst (λ (code : Code). ComesOf (trace_run code c.args.limit) known new c.run_named.result) run.0 (subst (λ (l : ℕ). ComesOf (trace_run (arc_value c.in_ok-start.start.program) l) known new c.run_named.result) run.1 (c.run_named.ensures.trace kept)) in
    came.all)
