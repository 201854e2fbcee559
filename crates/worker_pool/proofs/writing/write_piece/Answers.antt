use Rattle.std.proofs.Common.{refl, arith}
use Rattle.output.specs.Progress.{progress_place, run_of}
use Rattle.book.proofs.Pieces.{is_next, written_to}
use Rattle.worker_pool.proofs.writing.write_piece.Goals as goal

pub drain_next-requires : goal.drain_next-requires
drain_next-requires g c = is_next c.args.progress.now c.args.piece c.requires.piece c.requires.next

pub returns-in-Ok-clause-written : goal.returns-in-Ok-clause-written
returns-in-Ok-clause-written g c = λ known w.
    let piece = c.args.piece in
    let ok = c.in-Ok.ensures.ok in
    let len = piece.bytes.ok.0 in
    written_to (run_of c.args.progress.now) known (g.W.Write.contents c.args.writer.now) (g.W.Write.contents c.drain_next.new.writer) (progress_place c.args.progress.now) (progress_place c.drain_next.new.progress) piece.from piece.bytes.items
    c.requires.next c.drain_next.ensures.forward (omega (arith, ok, len)) c.requires.piece.stands c.drain_next.ensures.bytes w

pub returns-in-Err-clause-written : goal.returns-in-Err-clause-written
returns-in-Err-clause-written g c = λ known w.
    let piece = c.args.piece in
    let short = c.in-Err.ensures.short refl in
    let len = piece.bytes.ok.0 in
    written_to (run_of c.args.progress.now) known (g.W.Write.contents c.args.writer.now) (g.W.Write.contents c.drain_next.new.writer) (progress_place c.args.progress.now) (progress_place c.drain_next.new.progress) piece.from piece.bytes.items
    c.requires.next c.drain_next.ensures.forward (omega (arith, short, len)) c.requires.piece.stands c.drain_next.ensures.bytes w
