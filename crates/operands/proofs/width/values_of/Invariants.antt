use Rattle.std.proofs.Common.{◌≡◌, ◌+◌, ◌≤◌, drop, length}
use Rattle.bytecode.specs.Effects.{part_kinds}
use Rattle.operands.proofs.width.values_of.Given as goal

abbrev pub invariant-loop-part : goal.invariant-loop-part
invariant-loop-part l = record {
  values : l.values + length (part_kinds (drop l.part-index l.parts)) ≡ length (part_kinds l.parts);
  few : l.values ≤ l.part-index;
}
