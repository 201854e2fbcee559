use Rattle.std.proofs.Common.{rules, ◌≡◌}
use Rattle.std.proofs.lemmas.Result.{err_from_is_err_and}
use Rattle.book.specs.Runs.{output_run, trace_run}
use Rattle.book.proofs.Pieces.{stops, written_none}
use Rattle.worker_pool.proofs.pool.run_named.Goals as goal

pub returns-in_err-queues-clause-output : goal.returns-in_err-queues-clause-output
returns-in_err-queues-clause-output g c =
    let p = err_from_is_err_and c.from_residual.result c.from_residual.ensures.1 in
    let run = output_run g.B.RunName.code g.B.RunName.limit in
    let known = g.O.Write.contents c.args.out.now in
    stops run known known 0 c.from_residual.result p.0 p.1 (written_none run known)

pub returns-in_err-queues-clause-trace : goal.returns-in_err-queues-clause-trace
returns-in_err-queues-clause-trace g c =
    let p = err_from_is_err_and c.from_residual.result c.from_residual.ensures.1 in
    let run = trace_run g.B.RunName.code g.B.RunName.limit in
    let known = g.T.Write.contents c.args.trace.now in
    λ kept. stops run known known 0 c.from_residual.result p.0 p.1 (written_none run known)

pub returns-in_err-run-clause-output : goal.returns-in_err-run-clause-output
returns-in_err-run-clause-output g c =
    let p = err_from_is_err_and c.from_residual-in_err-run.result c.from_residual-in_err-run.ensures.1 in
    let run = output_run g.B.RunName.code g.B.RunName.limit in
    let known = g.O.Write.contents c.args.out.now in
    stops run known known 0 c.from_residual-in_err-run.result p.0 p.1 (written_none run known)

pub returns-in_err-run-clause-trace : goal.returns-in_err-run-clause-trace
returns-in_err-run-clause-trace g c =
    let p = err_from_is_err_and c.from_residual-in_err-run.result c.from_residual-in_err-run.ensures.1 in
    let run = trace_run g.B.RunName.code g.B.RunName.limit in
    let known = g.T.Write.contents c.args.trace.now in
    λ kept. stops run known known 0 c.from_residual-in_err-run.result p.0 p.1 (written_none run known)

pub returns-clause-output : goal.returns-clause-output
returns-clause-output g c =
    let out : c.out-1.given.0 ≡ c.beside-out.result.0.now = search rules in
    rw out c.beside-out.ensures.2

pub returns-clause-trace : goal.returns-clause-trace
returns-clause-trace g c =
    let trace : c.trace-1.given.0 ≡ c.beside-out.result.1.now = search rules in
    λ kept. rw trace (c.beside-out.ensures.3 kept)

pub returns-clause-write : goal.returns-clause-write
returns-clause-write g c =
    let out : c.out-1.given.0 ≡ c.beside-out.result.0.now = search rules in
    let trace : c.trace-1.given.0 ≡ c.beside-out.result.1.now = search rules in
    rw (out, trace) c.beside-out.ensures.4
