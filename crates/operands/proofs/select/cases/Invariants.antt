use Rattle.std.proofs.Common.{◌≡◌, ◌≤◌, drop, length}
use Rattle.bytecode.specs.Machine.{cases_of}
use Rattle.operands.proofs.Selects.{prefixed}
use Rattle.operands.proofs.select.cases.Given as goal

abbrev pub invariant-loop-clause : goal.invariant-loop-clause
invariant-loop-clause l = record {
  made : prefixed l.made.items (cases_of l.code (drop l.clause-index l.clauses) (drop l.index l.words)) ≡ cases_of l.code l.clauses l.words;
  within : l.index ≤ length l.words;
}
