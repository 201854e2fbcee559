use Rattle.std.proofs.Common.{◌≡◌, ◌+◌, drop, map}
use Rattle.syntax.specs.Tree.{expressions}
use Rattle.syntax.specs.Measures.{expressions_size}
use Rattle.syntax.specs.View.{expression_of}
use Rattle.type_table.specs.Visible.{types_of, globals_in, scope_of}
use Rattle.typing_rules.specs.declared.violation.Violation.{Violation}
use Rattle.typing_rules.specs.Expressions.{ExpressionsHave, ValuesFail}
use Rattle.checker_base.specs.Views.{kinds_in}
use Rattle.checker_base.proofs.Literals.{Narrows}
use Rattle.checker_base.proofs.operand.+checked.Given as goal

-- what is left shows what all show
abbrev pub invariant-fit-loop-number : goal.invariant-fit-loop-number
invariant-fit-loop-number l = record {
  end : l.end + expressions_size (expressions (map expression_of (drop l.number l.values))) ≡ l.fn.first + expressions_size (expressions (map expression_of l.values));
  found : (violation : Violation) → ExpressionsHave (globals_in l.table) (scope_of l.table l.visible) l.end (expressions (map expression_of (drop l.number l.values))) violation → ExpressionsHave (globals_in l.table) (scope_of l.table l.visible) l.fn.first (expressions (map expression_of l.values)) violation;
  passed : (violation : Violation) → ExpressionsHave (globals_in l.table) (scope_of l.table l.visible) l.fn.first (expressions (map expression_of l.values)) violation → ExpressionsHave (globals_in l.table) (scope_of l.table l.visible) l.end (expressions (map expression_of (drop l.number l.values))) violation;
  fits : Narrows l.misfit (ValuesFail (globals_in l.table) (scope_of l.table l.visible) l.fn.first (map expression_of l.values) (kinds_in (types_of l.table) l.wanted))
      (ValuesFail (globals_in l.table) (scope_of l.table l.visible) l.end (map expression_of (drop l.number l.values)) (drop l.number (kinds_in (types_of l.table) l.wanted)));
}
