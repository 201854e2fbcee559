use Rattle.std.proofs.Common.{◌≡◌, drop, false, map}
use Rattle.syntax.specs.View.{body_of, clause_of, clauses}
use Rattle.typing_rules.specs.Terminating.{last_terminates, clauses_terminate}
use Rattle.checker_statement.proofs.terminate.+terminates.Given as goal

abbrev pub invariant-last_terminates-loop-statement : goal.invariant-last_terminates-loop-statement
invariant-last_terminates-loop-statement l = last_terminates l.ends (body_of (drop l.statement-index l.body)) ≡ last_terminates false (body_of l.body)

abbrev pub invariant-clauses_terminate-loop-clause : goal.invariant-clauses_terminate-loop-clause
invariant-clauses_terminate-loop-clause l = clauses_terminate (clauses (map clause_of (drop l.clause-index l.all))) ≡ clauses_terminate (clauses (map clause_of l.all))
