use Rattle.std.proofs.Common.{◌≡◌, vec_len, length}
use Rattle.verifier.specs.Tables.{Reached, Spread}
use Rattle.verifier.proofs.paths.spread.Given as goal

abbrev pub invariant-loop-number : goal.invariant-loop-number
invariant-loop-number l = record {
  len : vec_len l.table ≡ length l.f.instrs;
  reached : Reached l.code l.f l.table.items;
  spread : Spread l.grew l.code l.f l.initial.table.items l.table.items l.place l.i l.kinds l.number;
}
