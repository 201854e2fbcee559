use Rattle.std.proofs.Common.{false}
use Rattle.std.specs.Arc.{arc_value}
use Rattle.recorder.proofs.Books.{opened}
use Rattle.recorder.proofs.recorder_loop.record_named.Goals as goal

pub keep-kept-requires : goal.keep-kept-requires
keep-kept-requires g c = opened (arc_value c.args.program) c.args.limit false c.in_ok-book.book c.in_ok-book.ensures.book

pub returns-clause-next : goal.returns-clause-next
returns-clause-next g c = rw (c.recording.ensures.0, c.recording.ensures.1) (rw c.in_ok-book.ensures.book at c.in_ok-kept.ensures.next)

pub returns-clause-rest : goal.returns-clause-rest
returns-clause-rest g c = rw (c.recording.ensures.0, c.recording.ensures.1, c.recording.ensures.2) (rw c.in_ok-book.ensures.book at c.in_ok-kept.ensures.rest)
