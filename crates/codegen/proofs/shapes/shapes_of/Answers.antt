use Rattle.std.proofs.Common.{◌≡◌, ◌+◌, ◌++◌, ◌∷◌, [], refl, map, take}
use Rattle.std.proofs.lemmas.List.{map_more}
use Rattle.type_table.specs.Visible.{globals_in}
use Rattle.codegen_base.specs.Elements.{element_kinds}
use Rattle.codegen.proofs.shapes.shapes_of.Goals as goal

pub loop-element-preserved : goal.loop-element-preserved
loop-element-preserved c =
    let at = c.loop-element.element-index in
    let elements = c.args.context.now.elements.now in
    let kinds = element_kinds (globals_in c.args.context.now.table.now).structs elements in
    let listed = c.elements-element-items.ensures in
    let here = rw listed at c.in_ok-kinds.ensures in
    let more : map kinds (take (at + 1) elements) ≡ map kinds (take at elements) ++ c.new.result ∷ [] = rw (c.new.ensures, here) (map_more kinds elements at _ (rw listed at c.loop-element-test.true)) in
    record { shapes = rw (c.in_ok-push.ensures.items, c.loop-element.invariant.shapes, more) refl }
