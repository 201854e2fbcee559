-- Layouts after blocks.
use Rattle.std.proofs.Common.{◌≡◌, length, take, map, ap, ◌∙◌}
use Rattle.type_table.specs.declared.table.TypeTable.{TypeTable}
use Rattle.type_table.specs.Visible.{types_of, variable_of}
use Rattle.codegen_base.specs.Layouts.{leaving}
use Rattle.codegen_simple.specs.declared.layout.Layout.{Layout as InMemory}
use Rattle.codegen_simple.specs.Layouts.{layout_of}

-- after a block that began at the outer layout, that one's variables are visible again
pub left_layout : (table : TypeTable) (outer inner new : InMemory) → take (length outer.visible.entries.items) inner.visible.entries.items ≡ outer.visible.entries.items
    → new.visible.entries.items ≡ take (length outer.visible.entries.items) inner.visible.entries.items → new.visible.outer ≡ outer.visible.outer → new.visible.words ≡ inner.visible.words → new.locals.items ≡ inner.locals.items
    → layout_of table new ≡ leaving (layout_of table outer) (layout_of table inner)
left_layout table outer inner new kept entries block words locals =
    let variables = ap (map (variable_of (types_of table))) (entries ∙ kept) in cc
