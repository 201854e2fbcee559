use Rattle.std.proofs.Common.{◌≡◌, vec_len, length}
use Rattle.verifier.specs.Tables.{Reached}
use Rattle.verifier.specs.Tables.{Going}
use Rattle.verifier.proofs.paths.pass.Given as goal

abbrev pub invariant-loop-place : goal.invariant-loop-place
invariant-loop-place l =
    (vec_len l.table ≡ length l.f.instrs) × Reached l.code l.f l.table.items × Going l.grew l.code l.f l.initial.table.items l.table.items l.place
