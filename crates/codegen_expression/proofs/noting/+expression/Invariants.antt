use Rattle.std.proofs.Common.{◌+◌, ◌*◌, map}
use Rattle.syntax.specs.Measures.{expression_size, expressions_size}
use Rattle.syntax.specs.Tree.{expressions}
use Rattle.syntax.specs.View.{expression_of}
use Rattle.codegen_expression.proofs.noting.+expression.Given as goal

-- the nodes that are left
abbrev pub decreases-note_expression : goal.decreases-note_expression
decreases-note_expression l = 2 * expression_size (expression_of l.expression.now)

abbrev pub decreases-note_expressions : goal.decreases-note_expressions
decreases-note_expressions l = 2 * expressions_size (expressions (map expression_of l.values.now)) + 1
