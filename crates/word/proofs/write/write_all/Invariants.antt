use Rattle.std.proofs.Common.{length, ◌-◌}
use Rattle.word.proofs.Writing.{Written}
use Rattle.word.proofs.write.write_all.Given as goal

abbrev pub invariant-writes : goal.invariant-writes
invariant-writes g l = Written (g.W.Write.contents l.initial.writer) (g.W.Write.contents l.writer) l.piece l.taken

abbrev pub decreases-writes : goal.decreases-writes
decreases-writes g l = length l.initial.piece - l.taken
