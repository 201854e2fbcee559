use Rattle.std.proofs.Common.{◌≡◌, ◌≤◌, ◌++◌, drop, length}
use Rattle.bytecode.specs.Machine.{printed_rest}
use Rattle.operands.proofs.print.print.Given as goal

abbrev pub invariant-loop-part : goal.invariant-loop-part
invariant-loop-part l = record {
  text : l.text.items ++ printed_rest l.table.line (drop l.part-index l.rest) (drop l.index l.words) ≡ l.initial.text.items ++ printed_rest l.table.line l.rest (drop l.initial.index l.words);
  within : l.index ≤ length l.words;
}
