use Rattle.book.specs.Runs.{IsReached, Written, output_run, trace_run}
use Rattle.output.specs.Progress.{progress_place}
use Rattle.worker_pool.proofs.writing.write_run.Given as goal

abbrev pub invariant-loop : goal.invariant-loop
invariant-loop g l =
    let code = g.B.RunName.code in
    let limit = g.B.RunName.limit in
    record {
      printed : IsReached (output_run code limit) l.printed.progress l.printed.share.parts l.printed.share.amount;
      traced : IsReached (trace_run code limit) l.traced.progress l.traced.share.parts l.traced.share.amount;
      output : Written (output_run code limit) (g.O.Write.contents l.initial.out) (g.O.Write.contents l.out) (progress_place l.printed.progress);
      trace : Written (trace_run code limit) (g.T.Write.contents l.initial.trace) (g.T.Write.contents l.trace) (progress_place l.traced.progress);
    }
