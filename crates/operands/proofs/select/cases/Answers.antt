use Rattle.std.proofs.Common.{◌∙◌, ◌+◌, ℕ, List, ap, arith, drop, length, length-drop, length-take, sym, take}
use Rattle.bytecode.specs.Machine.{cases_of}
use Rattle.operands.proofs.Selects.{no_more, one_more, prefixed}
use Rattle.operands.proofs.select.cases.Goals as goal
use Rattle.word.specs.declared.request.Case.{Case}

pub returns-in-None : goal.returns-in-None
returns-in-None c =
    no_more c.args.code.now c.loop-clause.made.items c.args.clauses.now c.args.words.now _ c.loop-clause.clause-index c.loop-clause.index _ _ c.loop-clause-test.true
    (c.words_from-some.ensures ∙ ap (λ (n : ℕ). take n (drop c.loop-clause.index c.args.words.now)) c.clause_width.ensures.width) (sym c.case.ensures ∙ c.in-None.is) c.loop-clause.invariant.made

pub loop-clause-preserved : goal.loop-clause-preserved
loop-clause-preserved c = record {
  made =
      let rest = cases_of c.args.code.now (drop (c.loop-clause.clause-index + 1) c.args.clauses.now) (drop (c.loop-clause.index + length c.words_from-some.result.now) c.args.words.now) in
      ap (λ (l : List Case). prefixed l rest) c.in_ok-push-in-Some.ensures.items
      ∙ one_more c.args.code.now c.loop-clause.made.items c.args.clauses.now c.args.words.now _ c.loop-clause.clause-index c.loop-clause.index _ _ _ c.loop-clause-test.true
      (c.words_from-some.ensures ∙ ap (λ (n : ℕ). take n (drop c.loop-clause.index c.args.words.now)) c.clause_width.ensures.width) (sym c.case.ensures ∙ c.in-Some.is) c.loop-clause.invariant.made;
  within =
      let some = ap length c.words_from-some.ensures in
      omega (arith, some, length-take c.clause_width.result (drop c.loop-clause.index c.args.words.now), length-drop c.loop-clause.index c.args.words.now, c.loop-clause.invariant.within);
}
