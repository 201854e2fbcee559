use Rattle.std.proofs.Common.{length, sym, subst}
use Rattle.std.proofs.Math.Seq.{take-length}
use Rattle.std.specs.Io.KnownBytes.{Appends}
use Rattle.one_thread.specs.Histories.{printed_by}
use Rattle.word.specs.Views.{request_of}
use Rattle.traced_run.proofs.tracing.write_event.Goals as goal

pub returns-clause-prints : goal.returns-clause-prints
returns-clause-prints g c = λ _.
    let bytes = printed_by (request_of c.args.event.now.request) in
    (length bytes, subst (Appends (g.O.Write.contents c.args.output.now) (g.O.Write.contents c.print.new.output)) (sym (take-length bytes)) c.in_ok-print.ensures.ok)
