use Rattle.std.proofs.Common.{◌≡◌, ◌+◌, ◌<◌, drop, map}
use Rattle.syntax.specs.Measures.{statements_size, clauses_size}
use Rattle.syntax.specs.View.{body_of, clause_of, clauses}
use Rattle.type_table.specs.Visible.{globals_in, scope_of, Keeps, Leaves}
use Rattle.typing_rules.specs.declared.violation.Violation.{Violation}
use Rattle.typing_rules.specs.Statements.{StatementsHave, ClausesHave, after_all, after_clauses, default_count}
use Rattle.checker_statement.specs.Settings.{setting_in}
use Rattle.checker_statement.proofs.statement.+statement.Given as goal

-- what is left shows what all show
abbrev pub invariant-statements-loop-one : goal.invariant-statements-loop-one
invariant-statements-loop-one l = record {
  end : l.end + statements_size (body_of (drop l.one-index l.body)) ≡ l.fn.first + statements_size (body_of l.body);
  after : after_all (globals_in l.table) (scope_of l.table l.visible) (body_of (drop l.one-index l.body)) ≡ after_all (globals_in l.table) (scope_of l.table l.initial.visible) (body_of l.body);
  kept : Keeps l.initial.visible l.visible;
  found : (violation : Violation) → StatementsHave (setting_in l.table l.inside) (scope_of l.table l.visible) l.end (body_of (drop l.one-index l.body)) violation → StatementsHave (setting_in l.table l.inside) (scope_of l.table l.initial.visible) l.fn.first (body_of l.body) violation;
  passed : (violation : Violation) → StatementsHave (setting_in l.table l.inside) (scope_of l.table l.initial.visible) l.fn.first (body_of l.body) violation → StatementsHave (setting_in l.table l.inside) (scope_of l.table l.visible) l.end (body_of (drop l.one-index l.body)) violation;
}

abbrev pub invariant-select-loop-one : goal.invariant-select-loop-one
invariant-select-loop-one l = record {
  end : l.end + clauses_size (clauses (map clause_of (drop l.one-index l.all))) ≡ l.fn.first + clauses_size (clauses (map clause_of l.all));
  after : after_clauses (globals_in l.table) (scope_of l.table l.visible) (clauses (map clause_of (drop l.one-index l.all))) ≡ after_clauses (globals_in l.table) (scope_of l.table l.initial.visible) (clauses (map clause_of l.all));
  left : Leaves l.initial.visible l.visible;
  count : l.defaults + default_count (clauses (map clause_of (drop l.one-index l.all))) ≡ default_count (clauses (map clause_of l.all));
  few : l.defaults < 2;
  found : (violation : Violation) → ClausesHave (setting_in l.table l.inside) (scope_of l.table l.visible) l.end (clauses (map clause_of (drop l.one-index l.all))) violation → ClausesHave (setting_in l.table l.inside) (scope_of l.table l.initial.visible) l.fn.first (clauses (map clause_of l.all)) violation;
  passed : (violation : Violation) → ClausesHave (setting_in l.table l.inside) (scope_of l.table l.initial.visible) l.fn.first (clauses (map clause_of l.all)) violation → ClausesHave (setting_in l.table l.inside) (scope_of l.table l.visible) l.end (clauses (map clause_of (drop l.one-index l.all))) violation;
}
