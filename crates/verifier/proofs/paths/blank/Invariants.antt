use Rattle.std.proofs.Common.{◌≡◌, vec_len}
use Rattle.verifier.specs.Tables.{Reached}
use Rattle.verifier.proofs.paths.blank.Given as goal

abbrev pub invariant-loop-i : goal.invariant-loop-i
invariant-loop-i l = (vec_len l.table ≡ l.i) × Reached l.code l.f l.table.items
