use Rattle.std.proofs.Common.{◌≡◌, vec_len, length}
use Rattle.verifier.specs.Tables.{Reached}
use Rattle.verifier.specs.Tables.{unknown}
use Rattle.verifier.proofs.paths.infer.Given as goal

abbrev pub invariant-loop-table : goal.invariant-loop-table
invariant-loop-table l = (vec_len l.table ≡ length l.f.instrs) × Reached l.code l.f l.table.items

abbrev pub decreases-loop-table : goal.decreases-loop-table
decreases-loop-table l = unknown l.table.items
