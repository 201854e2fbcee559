use Rattle.word.proofs.Writing.{Written-next}
use Rattle.word.proofs.write.write_all.Goals as goal

pub writes-preserved : goal.writes-preserved
writes-preserved g c = Written-next _ _ _ c.args.piece.now _ c.in-Ok.more c.writes.invariant c.in-Ok.ensures.bound c.in-Ok.ensures.bytes
