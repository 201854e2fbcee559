use Rattle.std.proofs.Common.{◌≡◌, ◌+◌, ◌++◌, drop, map}
use Rattle.syntax.specs.View.{body_of, clause_of, clauses}
use Rattle.spans.specs.Words.{body_count, clauses_count}
use Rattle.spans.specs.Places.{body_spans, clauses_spans}
use Rattle.spans.proofs.statement.+statement_spans.Given as goal

abbrev pub invariant-body_spans-loop-statement : goal.invariant-body_spans-loop-statement
invariant-body_spans-loop-statement l =
    (l.count + body_count (body_of (drop l.statement-index l.body)) ≡ body_count (body_of l.body))
    × (l.spans.items ++ body_spans l.tokens (l.at + l.count) (body_of (drop l.statement-index l.body))
    ≡ l.fn.spans.items ++ body_spans l.tokens l.at (body_of l.body))

abbrev pub invariant-clauses_spans-loop-clause : goal.invariant-clauses_spans-loop-clause
invariant-clauses_spans-loop-clause l =
    (l.count + clauses_count (clauses (map clause_of (drop l.clause-index l.all))) ≡ clauses_count (clauses (map clause_of l.all)))
    × (l.spans.items ++ clauses_spans l.tokens (l.at + l.count) (clauses (map clause_of (drop l.clause-index l.all)))
    ≡ l.fn.spans.items ++ clauses_spans l.tokens l.at (clauses (map clause_of l.all)))
