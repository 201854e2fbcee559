use Rattle.type_table.specs.Views.{kind_size}
use Rattle.codegen_expression.proofs.shape.+note_kind.Given as goal

abbrev pub decreases-note_kind : goal.decreases-note_kind
decreases-note_kind l = kind_size l.kind
