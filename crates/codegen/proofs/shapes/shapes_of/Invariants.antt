use Rattle.std.proofs.Common.{◌≡◌, map, take}
use Rattle.type_table.specs.Visible.{globals_in}
use Rattle.codegen_base.specs.Elements.{element_kinds}
use Rattle.codegen.proofs.shapes.shapes_of.Given as goal

-- the shapes so far
abbrev pub invariant-loop-element : goal.invariant-loop-element
invariant-loop-element l = record {
  shapes : l.shapes.items ≡ map (element_kinds (globals_in l.context.table.now).structs l.context.elements.now) (take l.element-index l.context.elements.now);
}
