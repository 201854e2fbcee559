use Rattle.std.proofs.Common.{◌≡◌, ◌++◌, map, take}
use Rattle.type_table.specs.Views.{kind_of}
use Rattle.type_table.specs.Visible.{types_of}
use Rattle.codegen_base.specs.Elements.{word_kind}
use Rattle.codegen_expression.proofs.shape.put_kinds.Given as goal

-- the kinds so far
abbrev pub invariant-loop-part : goal.invariant-loop-part
invariant-loop-part l = record {
  kinds : l.kinds.items ≡ l.initial.kinds.items ++ map (word_kind l.fn.context.elements.now) (map (kind_of (types_of l.fn.context.table.now)) (take l.part-index l.part-items));
}
