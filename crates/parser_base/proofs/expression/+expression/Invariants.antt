use Rattle.std.proofs.Common.{◌≡◌, ◌≤◌, ◌-◌, ◌+◌, ◌*◌, map}
use Rattle.syntax.specs.Measures.{Entries, highest, expression_height}
use Rattle.syntax.specs.View.{expression_of}
use Rattle.parser_base.specs.Cursor.{ahead}
use Rattle.parser_base.specs.Reading.{TooMany, value_next, listed, expression, operations, resumed}
use Rattle.parser_base.proofs.Lists.{with_front}
use Rattle.parser_base.proofs.expression.+expression.Given as goal

abbrev pub decreases-values : goal.decreases-values
decreases-values l = 10 * l.depth_left + 7

abbrev pub decreases-expression_list : goal.decreases-expression_list
decreases-expression_list l = 10 * l.depth_left + 6

abbrev pub decreases-measured_expression : goal.decreases-measured_expression
decreases-measured_expression l = 10 * l.depth_left + 5

abbrev pub decreases-operand : goal.decreases-operand
decreases-operand l = 10 * l.depth_left + 4

abbrev pub decreases-applied : goal.decreases-applied
decreases-applied l = 10 * l.depth_left + 3

abbrev pub decreases-operand_name : goal.decreases-operand_name
decreases-operand_name l = 10 * l.depth_left + 3

abbrev pub decreases-binary_expression : goal.decreases-binary_expression
decreases-binary_expression l = 10 * l.depth_left

abbrev pub decreases-composite_literal : goal.decreases-composite_literal
decreases-composite_literal l = 10 * l.depth_left

abbrev pub decreases-parenthesized : goal.decreases-parenthesized
decreases-parenthesized l = 10 * l.depth_left

abbrev pub decreases-unary_expression : goal.decreases-unary_expression
decreases-unary_expression l = 10 * l.depth_left

abbrev pub decreases-call : goal.decreases-call
decreases-call l = 10 * l.depth_left

abbrev pub decreases-receive : goal.decreases-receive
decreases-receive l = 10 * l.depth_left

abbrev pub decreases-resumed_expression : goal.decreases-resumed_expression
decreases-resumed_expression l = 10 * l.depth_left + 4

abbrev pub decreases-builtin_call : goal.decreases-builtin_call
decreases-builtin_call l = 10 * l.depth_left + 3

abbrev pub decreases-to_parenthesis : goal.decreases-to_parenthesis
decreases-to_parenthesis l = 10 * l.depth_left + 6

abbrev pub decreases-argument : goal.decreases-argument
decreases-argument l = 10 * l.depth_left + 7

abbrev pub decreases-make_with_size : goal.decreases-make_with_size
decreases-make_with_size l = 10 * l.depth_left

abbrev pub decreases-make_of : goal.decreases-make_of
decreases-make_of l = 10 * l.depth_left + 1

abbrev pub decreases-make_call : goal.decreases-make_call
decreases-make_call l = 10 * l.depth_left + 2

abbrev pub decreases-len_call : goal.decreases-len_call
decreases-len_call l = 10 * l.depth_left

abbrev pub decreases-cap_call : goal.decreases-cap_call
decreases-cap_call l = 10 * l.depth_left

abbrev pub invariant-resumed_expression-loop : goal.invariant-resumed_expression-loop
invariant-resumed_expression-loop l = record {
  total : operations (expression l.literals 64 (l.depth_left - 1)) l.depth_left l.least (l.depth_left - l.counter) (expression_of l.left.node) (ahead l.left.rest) ≡ resumed l.literals 64 l.depth_left l.least (expression_of l.fn.left.node) (ahead l.fn.left.rest);
  height : l.left.height ≡ expression_height (expression_of l.left.node);
  within : l.fn.left.height ≤ l.depth_left → l.left.height ≤ l.depth_left;
}

abbrev pub invariant-expression_list-loop : goal.invariant-expression_list-loop
invariant-expression_list-loop l = record {
  total : with_front (map expression_of l.entries.items) (listed (expression l.literals 64 l.depth_left 0) (value_next l.close) (TooMany Entries) (64 - l.counter) (ahead l.rest)) ≡ listed (expression l.literals 64 l.depth_left 0) (value_next l.close) (TooMany Entries) 64 (ahead l.fn.cursor);
  height : l.height ≡ highest expression_height (map expression_of l.entries.items);
  within : l.height ≤ l.depth_left;
}
