use Rattle.run_values.proofs.Lines.{AreClean}
use Rattle.run_values.proofs.line.ended.Given as goal

abbrev pub invariant-loop-byte : goal.invariant-loop-byte
invariant-loop-byte l = AreClean l.line.items
