use Rattle.type_table.specs.Views.{kind_size}
use Rattle.codegen_expression.proofs.shape.+element_of.Given as goal

abbrev pub decreases-element_of : goal.decreases-element_of
decreases-element_of l = kind_size l.kind
