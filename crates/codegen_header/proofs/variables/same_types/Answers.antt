use Rattle.std.proofs.Common.{◌≡◌, ◌+◌, ◌++◌, ◌∷◌, [], refl, map, take}
use Rattle.std.proofs.lemmas.List.{map_more}
use Rattle.codegen_header.proofs.variables.same_types.Goals as goal

pub loop-name-preserved : goal.loop-name-preserved
loop-name-preserved c =
    let kind = c.args.kind in
    let at = c.loop-name._name-index in
    let names = c.args.names.now in
    let more : map (λ name. kind) (take (at + 1) names) ≡ map (λ name. kind) (take at names) ++ kind ∷ [] = map_more (λ name. kind) names at c._name-item.result c.loop-name-test.true in
    record { kinds = rw (c.in_ok-push.ensures.items, c.loop-name.invariant.kinds, more) refl }
