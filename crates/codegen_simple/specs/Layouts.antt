-- Layouts as they are in memory.
use Rattle.type_table.specs.declared.table.TypeTable.{TypeTable}
use Rattle.type_table.specs.Visible.{scope_of}
use Rattle.codegen_base.specs.Layouts.{Layout}
use Rattle.codegen_expression.specs.declared.context.Context.{Context}
use Rattle.codegen_simple.specs.declared.layout.Layout.{Layout as InMemory}

abbrev pub layout_of : TypeTable → InMemory → Layout
layout_of table layout = record { scope = scope_of table layout.visible; locals = layout.locals.items }

abbrev pub layout_in : Context → InMemory → Layout
layout_in context layout = layout_of context.table.now layout
