use Rattle.std.proofs.Common.{◌≡◌, ◌+◌, ◌≤◌, drop, length, map}
use Rattle.syntax.specs.Measures.{statements_size, clauses_size}
use Rattle.syntax.specs.View.{body_of, clause_of, clauses}
use Rattle.type_table.specs.Visible.{types_of}
use Rattle.codegen_base.specs.Program.{noting_statements, noting_clauses}
use Rattle.codegen_expression.proofs.noting.+statement.Given as goal

-- what is left comes to what all come to
abbrev pub invariant-note_statements-loop-one : goal.invariant-note_statements-loop-one
invariant-note_statements-loop-one l = record {
  noted : noting_statements (types_of l.table) (body_of (drop l.one-index l.body)) l.elements ≡ noting_statements (types_of l.table) (body_of l.body) l.initial.elements;
  count : length l.elements + statements_size (body_of (drop l.one-index l.body)) ≤ length l.initial.elements + statements_size (body_of l.body);
}

abbrev pub invariant-note_clauses-loop-one : goal.invariant-note_clauses-loop-one
invariant-note_clauses-loop-one l = record {
  noted : noting_clauses (types_of l.table) (clauses (map clause_of (drop l.one-index l.all))) l.elements ≡ noting_clauses (types_of l.table) (clauses (map clause_of l.all)) l.initial.elements;
  count : length l.elements + clauses_size (clauses (map clause_of (drop l.one-index l.all))) ≤ length l.initial.elements + clauses_size (clauses (map clause_of l.all));
}
