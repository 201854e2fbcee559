use Rattle.std.proofs.Common.{◌≡◌, [], ◌∷◌, ◌+◌, suc, true, false, not, ◌&&◌, map, drop, drop-cons, sym, ◌∙◌, arith}
use Rattle.std.proofs.lemmas.List.{drop_all}
use Rattle.syntax.specs.View.{clause_of, clauses}
use Rattle.typing_rules.specs.Terminating.{some_breaks_out, last_terminates, clauses_terminate}
use Rattle.checker_statement.proofs.Further.{both_hold}
use Rattle.checker_statement.proofs.terminate.+terminates.Goals as goal

pub clauses_terminate-loop-clause-preserved : goal.clauses_terminate-loop-clause-preserved
clauses_terminate-loop-clause-preserved t c =
    let body = (clause_of c.clause-item.result).body in
    let left = drop (suc c.loop-clause.clause-index) c.args.all.now in
    let more : c.loop-clause.clause-index + 1 ≡ suc c.loop-clause.clause-index = omega arith in
    let cut : drop c.loop-clause.clause-index c.args.all.now ≡ c.clause-item.result ∷ left = rw c.clause-item.is (drop-cons c.args.all.now c.loop-clause.clause-index _ c.loop-clause-test.true) in
    let holds : (last_terminates false body && not (some_breaks_out body)) ≡ true = sym c.clause_terminates.ensures ∙ c.if-not-clause_terminates.false in
    rw more (both_hold (last_terminates false body) (not (some_breaks_out body)) (clauses_terminate (clauses (map clause_of left))) _ holds (rw cut at c.loop-clause.invariant))

pub last_terminates-returns : goal.last_terminates-returns
last_terminates-returns t c =
    let none : drop c.loop-statement.statement-index c.args.body.now ≡ [] = drop_all c.loop-statement.statement-index c.args.body.now c.loop-statement-test.false in
    rw none at c.loop-statement.invariant
