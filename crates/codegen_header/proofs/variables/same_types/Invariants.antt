use Rattle.std.proofs.Common.{◌≡◌, map, take}
use Rattle.codegen_header.proofs.variables.same_types.Given as goal

-- the types so far
abbrev pub invariant-loop-name : goal.invariant-loop-name
invariant-loop-name l = record {
  kinds : l.kinds.items ≡ map (λ name. l.kind) (take l._name-index l.names);
}
