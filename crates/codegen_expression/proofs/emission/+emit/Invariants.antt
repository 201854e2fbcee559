use Rattle.std.proofs.Common.{◌+◌, ◌*◌, map}
use Rattle.syntax.specs.Measures.{expression_size, expressions_size}
use Rattle.syntax.specs.Tree.{expressions}
use Rattle.syntax.specs.View.{expression_of}
use Rattle.codegen_expression.proofs.emission.+emit.Given as goal

-- the nodes that are left
abbrev pub decreases-emit : goal.decreases-emit
decreases-emit l = 8 * expression_size (expression_of l.expression.now)

abbrev pub decreases-emit_channel : goal.decreases-emit_channel
decreases-emit_channel l = 8 * expression_size (expression_of l.channel.now) + 1

abbrev pub decreases-emit_receive : goal.decreases-emit_receive
decreases-emit_receive l = 8 * expression_size (expression_of l.channel.now) + 2

abbrev pub decreases-push : goal.decreases-push
decreases-push l = 8 * expression_size (expression_of l.expression.now) + 1

abbrev pub decreases-emit_right : goal.decreases-emit_right
decreases-emit_right l = 8 * expression_size (expression_of l.right.now) + 1

abbrev pub decreases-emit_binary : goal.decreases-emit_binary
decreases-emit_binary l = 8 * (expression_size (expression_of l.left.now) + expression_size (expression_of l.right.now)) + 2

abbrev pub decreases-emit_all : goal.decreases-emit_all
decreases-emit_all l = 8 * expressions_size (expressions (map expression_of l.values.now)) + 2

abbrev pub decreases-emit_fields : goal.decreases-emit_fields
decreases-emit_fields l = 8 * expressions_size (expressions (map expression_of l.values.now)) + 2

abbrev pub decreases-emit_arguments : goal.decreases-emit_arguments
decreases-emit_arguments l = 8 * expressions_size (expressions (map expression_of l.values.now)) + 3

abbrev pub decreases-emit_literal : goal.decreases-emit_literal
decreases-emit_literal l = 8 * expressions_size (expressions (map expression_of l.values.now)) + 3

abbrev pub decreases-emit_call : goal.decreases-emit_call
decreases-emit_call l = 8 * expressions_size (expressions (map expression_of l.values.now)) + 4

abbrev pub decreases-emit_composite : goal.decreases-emit_composite
decreases-emit_composite l = 8 * expressions_size (expressions (map expression_of l.values.now)) + 4
