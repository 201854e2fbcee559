use Rattle.std.proofs.Common.{◌≡◌, ◌++◌, map, take}
use Rattle.codegen_base.specs.Pushes.{zero_instr}
use Rattle.codegen_expression.proofs.operand.push_zeros.Given as goal

-- the zeros so far
abbrev pub invariant-loop-kind : goal.invariant-loop-kind
invariant-loop-kind l = record {
  zeros : l.code.items ≡ l.initial.code.items ++ map zero_instr (take l.kind-index l.kind-items);
}
