use Rattle.std.proofs.Common.{◌≡◌, ◌++◌, drop}
use Rattle.bytecode.specs.Effects.{all_clause_kinds}
use Rattle.verifier_base.proofs.effect.operands_of_clauses.Given as goal

abbrev pub invariant-loop-clause : goal.invariant-loop-clause
invariant-loop-clause l = l.kinds.items ++ all_clause_kinds l.code (drop l.clause-index l.clauses) ≡ all_clause_kinds l.code l.clauses
