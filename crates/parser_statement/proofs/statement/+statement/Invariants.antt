use Rattle.std.proofs.Common.{◌≡◌, ◌-◌, ◌+◌, ◌*◌, map, length}
use Rattle.syntax.specs.Measures.{SelectClauses}
use Rattle.syntax.specs.View.{statement_of}
use Rattle.syntax.specs.declared.limits.TheConstants.{MAX_CLAUSES, MAX_ENTRIES}
use Rattle.parser_base.specs.Cursor.{ahead}
use Rattle.parser_base.specs.Reading.{Syntax, TooMany, listed}
use Rattle.parser_base.proofs.Lists.{with_front}
use Rattle.parser_statement.specs.Reading.{statement, next_of, clause, clauses_next}
use Rattle.parser_statement.specs.Views.{clause_of}
use Rattle.parser_statement.proofs.statement.+statement.Given as goal

abbrev pub decreases-statement : goal.decreases-statement
decreases-statement l = 8 * l.depth_left

abbrev pub decreases-keyword_statement : goal.decreases-keyword_statement
decreases-keyword_statement l = 8 * l.depth_left + 4

abbrev pub decreases-statement_list : goal.decreases-statement_list
decreases-statement_list l = 8 * l.depth_left + 2

abbrev pub decreases-block : goal.decreases-block
decreases-block l = 8 * l.depth_left

abbrev pub decreases-else_branch : goal.decreases-else_branch
decreases-else_branch l = 8 * l.depth_left + 1

abbrev pub decreases-optional_else : goal.decreases-optional_else
decreases-optional_else l = 8 * l.depth_left + 2

abbrev pub decreases-if_statement : goal.decreases-if_statement
decreases-if_statement l = 8 * l.depth_left + 3

abbrev pub decreases-for_statement : goal.decreases-for_statement
decreases-for_statement l = 8 * l.depth_left + 3

abbrev pub decreases-statements_to_end : goal.decreases-statements_to_end
decreases-statements_to_end l = 8 * l.depth_left + 1

abbrev pub decreases-clause_body : goal.decreases-clause_body
decreases-clause_body l = 8 * l.depth_left + 2

abbrev pub decreases-comm_clause : goal.decreases-comm_clause
decreases-comm_clause l = 8 * l.depth_left

abbrev pub decreases-comm_clause_below : goal.decreases-comm_clause_below
decreases-comm_clause_below l = 8 * l.depth_left + 3

abbrev pub decreases-statement_below : goal.decreases-statement_below
decreases-statement_below l = 8 * l.depth_left + 5

abbrev pub decreases-comm_clauses : goal.decreases-comm_clauses
decreases-comm_clauses l = 8 * l.depth_left + 1

abbrev pub decreases-select_statement : goal.decreases-select_statement
decreases-select_statement l = 8 * l.depth_left + 2

abbrev pub invariant-statements_to_end-loop : goal.invariant-statements_to_end-loop
invariant-statements_to_end-loop l = record {
  total : with_front (map statement_of l.entries.items) (listed (statement MAX_ENTRIES l.depth_left) (next_of l.clause) Syntax (length (ahead l.fn.cursor) - l.counter) (ahead l.rest)) ≡ listed (statement MAX_ENTRIES l.depth_left) (next_of l.clause) Syntax (length (ahead l.fn.cursor)) (ahead l.fn.cursor);
}

abbrev pub invariant-comm_clauses-loop : goal.invariant-comm_clauses-loop
invariant-comm_clauses-loop l = record {
  total : with_front (map clause_of l.entries.items) (listed (clause MAX_ENTRIES l.depth_left) clauses_next (TooMany SelectClauses) (MAX_CLAUSES - l.counter) (ahead l.rest)) ≡ listed (clause MAX_ENTRIES l.depth_left) clauses_next (TooMany SelectClauses) MAX_CLAUSES (ahead l.fn.cursor);
}
