use Rattle.std.proofs.Common.{◌≡◌, ◌+◌, ◌*◌, ◌≤◌, drop, length}
use Rattle.bytecode.specs.Effects.{all_clause_kinds}
use Rattle.operands.proofs.width.select_width.Given as goal

abbrev pub invariant-loop-clause : goal.invariant-loop-clause
invariant-loop-clause l = record {
  width : l.width + length (all_clause_kinds l.code (drop l.clause-index l.clauses)) ≡ length (all_clause_kinds l.code l.clauses);
  few : l.width ≤ 17 * l.clause-index;
}
