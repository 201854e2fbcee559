use Rattle.std.proofs.Common.{◌≡◌, ◌+◌, ◌++◌, drop, map, sum_by}
use Rattle.syntax.specs.Tree.{expressions}
use Rattle.syntax.specs.Measures.{expression_size}
use Rattle.syntax.specs.View.{expression_of}
use Rattle.typing_rules.specs.declared.violation.Violation.{Violation}
use Rattle.typing_rules.specs.Expressions.{ExpressionsHave}
use Rattle.typing_rules.specs.Operations.{given_values}
use Rattle.type_table.specs.Visible.{types_of, globals_in, scope_of}
use Rattle.checker_simple.specs.Givens.{given_of}
use Rattle.checker_simple.proofs.given.operands.Given as goal

-- what is left gives and shows what all give and show
abbrev pub invariant-loop-value : goal.invariant-loop-value
invariant-loop-value l = record {
  end : l.end + sum_by expression_size (map expression_of (drop l.value-index l.values)) ≡ l.fn.first + sum_by expression_size (map expression_of l.values);
  given : map (given_of (types_of l.table)) l.all.items ++ given_values (globals_in l.table) (scope_of l.table l.visible) l.end (map expression_of (drop l.value-index l.values)) ≡ given_values (globals_in l.table) (scope_of l.table l.visible) l.fn.first (map expression_of l.values);
  found : (violation : Violation) → ExpressionsHave (globals_in l.table) (scope_of l.table l.visible) l.end (expressions (map expression_of (drop l.value-index l.values))) violation → ExpressionsHave (globals_in l.table) (scope_of l.table l.visible) l.fn.first (expressions (map expression_of l.values)) violation;
  passed : (violation : Violation) → ExpressionsHave (globals_in l.table) (scope_of l.table l.visible) l.fn.first (expressions (map expression_of l.values)) violation → ExpressionsHave (globals_in l.table) (scope_of l.table l.visible) l.end (expressions (map expression_of (drop l.value-index l.values))) violation;
}
