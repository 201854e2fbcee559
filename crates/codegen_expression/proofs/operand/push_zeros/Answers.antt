use Rattle.std.proofs.Common.{◌≡◌, ◌+◌, ◌++◌, ◌∷◌, [], map, take, append_assoc}
use Rattle.std.proofs.lemmas.List.{map_more}
use Rattle.codegen_base.specs.Pushes.{zero_instr}
use Rattle.codegen_expression.proofs.operand.push_zeros.Goals as goal

pub loop-kind-preserved : goal.loop-kind-preserved
loop-kind-preserved c =
    let at = c.loop-kind.kind-index in
    let kinds = c.deref-kind-items.result.now in
    let more : map zero_instr (take (at + 1) kinds) ≡ map zero_instr (take at kinds) ++ c.zero_instr.result ∷ [] = rw c.zero_instr.ensures (map_more zero_instr kinds at _ c.loop-kind-test.true) in
    record { zeros = rw (c.in_ok-push.ensures.items, c.loop-kind.invariant.zeros, more) (append_assoc c.args.code.now.items (map zero_instr (take at kinds)) (c.zero_instr.result ∷ [])) }
