use Rattle.std.proofs.Common.{◌∙◌}
use Rattle.std.proofs.lemmas.Result.{err_from_is_err_and}
use Rattle.output.specs.Progress.{progress_place, run_of}
use Rattle.book.specs.Runs.{output_run, trace_run}
use Rattle.book.proofs.Pieces.{begun, comes_to_end, output_to_end, reached, stops, trace_to_end, wrote_on}
use Rattle.worker_pool.proofs.writing.write_run.Goals as goal

pub loop-init : goal.loop-init
loop-init g c =
    let code = g.B.RunName.code in
    let limit = g.B.RunName.limit in
    record {
      printed = c.requires.printed;
      traced = c.requires.traced;
      output = begun (output_run code limit) (g.O.Write.contents c.args.out.now) (progress_place c.args.printed.now.progress) c.requires.nothing.0;
      trace = begun (trace_run code limit) (g.T.Write.contents c.args.trace.now) (progress_place c.args.traced.now.progress) c.requires.nothing.1;
    }

pub returns-in_err-handed-clause-output : goal.returns-in_err-handed-clause-output
returns-in_err-handed-clause-output g c =
    let p = err_from_is_err_and c.from_residual.result c.from_residual.ensures.1 in
    stops (output_run g.B.RunName.code g.B.RunName.limit) (g.O.Write.contents c.args.out.now) (g.O.Write.contents c.loop.out) (progress_place c.loop.printed.progress) c.from_residual.result p.0 p.1 c.loop.invariant.output

pub returns-in_err-handed-clause-trace : goal.returns-in_err-handed-clause-trace
returns-in_err-handed-clause-trace g c =
    let p = err_from_is_err_and c.from_residual.result c.from_residual.ensures.1 in
    λ kept. stops (trace_run g.B.RunName.code g.B.RunName.limit) (g.T.Write.contents c.args.trace.now) (g.T.Write.contents c.loop.trace) (progress_place c.loop.traced.progress) c.from_residual.result p.0 p.1 c.loop.invariant.trace

pub returns-in_err-write_piece-clause-output : goal.returns-in_err-write_piece-clause-output
returns-in_err-write_piece-clause-output g c =
    let p = err_from_is_err_and c.from_residual-in_err-write_piece.result c.from_residual-in_err-write_piece.ensures.1 in
    let i = c.loop.invariant in
    let run = output_run g.B.RunName.code g.B.RunName.limit in
    let known = g.O.Write.contents c.args.out.now in
    let new = g.O.Write.contents c.write_piece.new.writer in
    stops run known new (progress_place c.write_piece.new.progress) c.from_residual-in_err-write_piece.result p.0 p.1
    (wrote_on (run_of c.loop.printed.progress) run known (g.O.Write.contents c.loop.out) new (progress_place c.loop.printed.progress) (progress_place c.write_piece.new.progress) i.printed.run c.write_piece.ensures.written i.output)

pub returns-in_err-write_piece-clause-trace : goal.returns-in_err-write_piece-clause-trace
returns-in_err-write_piece-clause-trace g c =
    let p = err_from_is_err_and c.from_residual-in_err-write_piece.result c.from_residual-in_err-write_piece.ensures.1 in
    λ kept. stops (trace_run g.B.RunName.code g.B.RunName.limit) (g.T.Write.contents c.args.trace.now) (g.T.Write.contents c.loop.trace) (progress_place c.loop.traced.progress) c.from_residual-in_err-write_piece.result p.0 p.1 c.loop.invariant.trace

pub returns-in_err-write_piece-2-clause-output : goal.returns-in_err-write_piece-2-clause-output
returns-in_err-write_piece-2-clause-output g c =
    let p = err_from_is_err_and c.from_residual-in_err-write_piece-2.result c.from_residual-in_err-write_piece-2.ensures.1 in
    let i = c.loop.invariant in
    let run = output_run g.B.RunName.code g.B.RunName.limit in
    let known = g.O.Write.contents c.args.out.now in
    let new = g.O.Write.contents c.write_piece.new.writer in
    stops run known new (progress_place c.write_piece.new.progress) c.from_residual-in_err-write_piece-2.result p.0 p.1
    (wrote_on (run_of c.loop.printed.progress) run known (g.O.Write.contents c.loop.out) new (progress_place c.loop.printed.progress) (progress_place c.write_piece.new.progress) i.printed.run c.write_piece.ensures.written i.output)

pub returns-in_err-write_piece-2-clause-trace : goal.returns-in_err-write_piece-2-clause-trace
returns-in_err-write_piece-2-clause-trace g c =
    let p = err_from_is_err_and c.from_residual-in_err-write_piece-2.result c.from_residual-in_err-write_piece-2.ensures.1 in
    let i = c.loop.invariant in
    let run = trace_run g.B.RunName.code g.B.RunName.limit in
    let known = g.T.Write.contents c.args.trace.now in
    let new = g.T.Write.contents c.write_piece-in-loop.new.writer in
    λ kept. stops run known new (progress_place c.write_piece-in-loop.new.progress) c.from_residual-in_err-write_piece-2.result p.0 p.1
    (wrote_on (run_of c.loop.traced.progress) run known (g.T.Write.contents c.loop.trace) new (progress_place c.loop.traced.progress) (progress_place c.write_piece-in-loop.new.progress) i.traced.run c.write_piece-in-loop.ensures.written i.trace)

pub returns-in-Some-end-clause-output : goal.returns-in-Some-end-clause-output
returns-in-Some-end-clause-output g c =
    let i = c.loop.invariant in
    let code = g.B.RunName.code in
    let limit = g.B.RunName.limit in
    let run = output_run code limit in
    let known = g.O.Write.contents c.args.out.now in
    let new = g.O.Write.contents c.write_piece.new.writer in
    let place = progress_place c.write_piece.new.progress in
    let parts = c.into_parts-output.ensures.parts in
    let result = c.into_parts-output.result in
    comes_to_end run known new place c.in-Some-end.end
    (wrote_on (run_of c.loop.printed.progress) run known (g.O.Write.contents c.loop.out) new (progress_place c.loop.printed.progress) place i.printed.run c.write_piece.ensures.written i.output)
    (output_to_end code limit g.B.RunName.traces c.in_ok-handed.handed result.0 result.2 c.in-Some-end.end place c.into_parts-output.ensures.handing parts.0 parts.2 c.in-Some-end.is c.in_ok-write_piece.ensures.place)

pub returns-in-Some-end-clause-trace : goal.returns-in-Some-end-clause-trace
returns-in-Some-end-clause-trace g c =
    let i = c.loop.invariant in
    let code = g.B.RunName.code in
    let limit = g.B.RunName.limit in
    let run = trace_run code limit in
    let known = g.T.Write.contents c.args.trace.now in
    let new = g.T.Write.contents c.write_piece-in-loop.new.writer in
    let place = progress_place c.write_piece-in-loop.new.progress in
    let parts = c.into_parts-output.ensures.parts in
    let result = c.into_parts-output.result in
    λ kept. comes_to_end run known new place c.in-Some-end.end
    (wrote_on (run_of c.loop.traced.progress) run known (g.T.Write.contents c.loop.trace) new (progress_place c.loop.traced.progress) place i.traced.run c.write_piece-in-loop.ensures.written i.trace)
    (trace_to_end code limit g.B.RunName.traces c.in_ok-handed.handed result.1 result.2 c.in-Some-end.end place c.into_parts-output.ensures.handing kept parts.1 parts.2 c.in-Some-end.is c.in_ok-write_piece-2.ensures.place)

pub loop-preserved : goal.loop-preserved
loop-preserved g c =
    let i = c.loop.invariant in
    let code = g.B.RunName.code in
    let limit = g.B.RunName.limit in
    let shares = c.in_ok-handed.ensures in
    let parts = c.into_parts-output.ensures.parts in
    let result = c.into_parts-output.result in
    let handed = c.in_ok-handed.handed in
    let printed = c.write_piece in
    let traced = c.write_piece-in-loop in
    record {
      printed = record {
        run = printed.ensures.run ∙ i.printed.run;
        place = reached (progress_place printed.new.progress) c.next-in-loop.new.printed.amount c.loop.printed.share.amount result.0 handed.output parts.0 c.in_ok-write_piece.ensures.place shares.output.0 shares.output.1;
        whole = shares.parts.0;
      };
      traced = record {
        run = traced.ensures.run ∙ i.traced.run;
        place = reached (progress_place traced.new.progress) c.next-in-loop.new.traced.amount c.loop.traced.share.amount result.1 handed.trace parts.1 c.in_ok-write_piece-2.ensures.place shares.trace.0 shares.trace.1;
        whole = shares.parts.1;
      };
      output = wrote_on (run_of c.loop.printed.progress) (output_run code limit) (g.O.Write.contents c.args.out.now) (g.O.Write.contents c.loop.out) (g.O.Write.contents printed.new.writer) (progress_place c.loop.printed.progress) (progress_place printed.new.progress) i.printed.run printed.ensures.written i.output;
      trace = wrote_on (run_of c.loop.traced.progress) (trace_run code limit) (g.T.Write.contents c.args.trace.now) (g.T.Write.contents c.loop.trace) (g.T.Write.contents traced.new.writer) (progress_place c.loop.traced.progress) (progress_place traced.new.progress) i.traced.run traced.ensures.written i.trace;
    }
