use Rattle.std.proofs.Common.{append_assoc, ◌++◌, ◌≡◌, ◌∷◌, ◌+◌, suc, ℕ, map, drop, arith, drop-cons, [], rules}
use Rattle.std.proofs.lemmas.List.{append-nil, drop_all}
use Rattle.syntax.specs.declared.node.ExpressionNode.TheFolds.{the_lemmas}
use Rattle.syntax.specs.Tree.{expressions}
use Rattle.syntax.specs.View.{expression_of}
use Rattle.spans.specs.Words.{expression_count}
use Rattle.spans.specs.Places.{over, under, expression_spans, values_spans}
use Rattle.spans.proofs.Walks.{next_spans}
use Rattle.spans.proofs.expression.+expression_spans.Goals as goal
use Rattle.spans.proofs.expression.+expression_spans.Goals.{expression_spans-in-Parenthesized+in_ok-expression_spans-in-Parenthesized, expression_spans-in-Selection+in_ok-expression_spans-in-Selection, expression_spans-in-Composite+in_ok-count-in-Composite, expression_spans-in-Unary+in_ok-expression_spans-in-Unary, expression_spans-in-Binary+in_ok-left-in-Binary+in_ok-right-in-Binary, expression_spans-in-Make+in_ok-type_spans-in-Make, expression_spans-in-MakeSized+in_ok-channel-in-MakeSized+in_ok-size-in-MakeSized, expression_spans-in-Call+in_ok-count-in-Call, expression_spans-in-Receive+in_ok-expression_spans-in-Receive, expression_spans-in-Length+in_ok-expression_spans-in-Length, expression_spans-in-Capacity+in_ok-expression_spans-in-Capacity, expression_spans-in-Integer, expression_spans-in-Integer-2}

pub values_spans-loop-value-preserved : goal.values_spans-loop-value-preserved
values_spans-loop-value-preserved t c =
    let tokens = c.args.tokens.now in
    let count = c.loop-value.count in
    let first = expression_of c.value-item.result in
    let rest = drop (suc c.loop-value.value-index) c.args.values.now in
    let more : c.loop-value.value-index + 1 ≡ suc c.loop-value.value-index = omega arith in
    let cut : drop c.loop-value.value-index c.args.values.now ≡ c.value-item.result ∷ rest = rw c.value-item.is (drop-cons c.args.values.now c.loop-value.value-index _ c.loop-value-test.true) in
    let counted = rw cut at c.loop-value.invariant.0 in
    rw more (
      omega (arith, c.in_ok-count.ensures.count),
      next_spans (λ (at : ℕ). values_spans tokens at (expressions (map expression_of rest))) c.loop-value.spans.items (expression_spans tokens (c.args.at + count) first) _ c.expression_spans.new.spans.items (c.args.at + count + (expression_count first + 1)) (c.args.at + (count + (c.in_ok-count.field-0 + 1)))
          c.in_ok-count.ensures.spans (omega (arith, c.in_ok-count.ensures.count)) (rw cut at c.loop-value.invariant.1),
    )

pub values_spans-returns-clause-count : goal.values_spans-returns-clause-count
values_spans-returns-clause-count t c =
    let none : drop c.loop-value.value-index c.args.values.now ≡ [] = drop_all c.loop-value.value-index c.args.values.now c.loop-value-test.false in
    omega (arith, rw none at c.loop-value.invariant.0)

pub values_spans-returns-clause-spans : goal.values_spans-returns-clause-spans
values_spans-returns-clause-spans t c =
    let none : drop c.loop-value.value-index c.args.values.now ≡ [] = drop_all c.loop-value.value-index c.args.values.now c.loop-value-test.false in
    rw append-nil at (rw none at c.loop-value.invariant.1)

pub expression_spans-expression_spans-requires : goal.expression_spans-expression_spans-requires
expression_spans-expression_spans-requires t c = search (rules, the_lemmas)

pub expression_spans-overflow_add-count : goal.expression_spans-overflow_add-count
expression_spans-overflow_add-count t c = search (rules, the_lemmas)

pub expression_spans-expression_spans-requires-in-Selection : goal.expression_spans-expression_spans-requires-in-Selection
expression_spans-expression_spans-requires-in-Selection t c = search (rules, the_lemmas)

pub expression_spans-overflow_add-count-in-Selection : goal.expression_spans-overflow_add-count-in-Selection
expression_spans-overflow_add-count-in-Selection t c = search (rules, the_lemmas)

pub expression_spans-values_spans-requires : goal.expression_spans-values_spans-requires
expression_spans-values_spans-requires t c = search (rules, the_lemmas)

pub expression_spans-overflow_add-count-in-Composite-2 : goal.expression_spans-overflow_add-count-in-Composite-2
expression_spans-overflow_add-count-in-Composite-2 t c = search (rules, the_lemmas)

pub expression_spans-expression_spans-requires-in-Unary : goal.expression_spans-expression_spans-requires-in-Unary
expression_spans-expression_spans-requires-in-Unary t c = search (rules, the_lemmas)

pub expression_spans-overflow_add-count-in-Unary : goal.expression_spans-overflow_add-count-in-Unary
expression_spans-overflow_add-count-in-Unary t c = search (rules, the_lemmas)

pub expression_spans-expression_spans-requires-in-Binary : goal.expression_spans-expression_spans-requires-in-Binary
expression_spans-expression_spans-requires-in-Binary t c = search (rules, the_lemmas)

pub expression_spans-overflow_add-at-in-Binary : goal.expression_spans-overflow_add-at-in-Binary
expression_spans-overflow_add-at-in-Binary t c = search (rules, the_lemmas)

pub expression_spans-overflow_add-at-in-Binary-2 : goal.expression_spans-overflow_add-at-in-Binary-2
expression_spans-overflow_add-at-in-Binary-2 t c = search (rules, the_lemmas)

pub expression_spans-expression_spans-requires-in-Binary-2 : goal.expression_spans-expression_spans-requires-in-Binary-2
expression_spans-expression_spans-requires-in-Binary-2 t c = search (rules, the_lemmas)

pub expression_spans-overflow_add-count-in-Binary : goal.expression_spans-overflow_add-count-in-Binary
expression_spans-overflow_add-count-in-Binary t c = search (rules, the_lemmas)

pub expression_spans-overflow_add-count-in-Binary-2 : goal.expression_spans-overflow_add-count-in-Binary-2
expression_spans-overflow_add-count-in-Binary-2 t c = search (rules, the_lemmas)

pub values_spans-overflow_add-count : goal.values_spans-overflow_add-count
values_spans-overflow_add-count t c =
    let cut : drop c.loop-value.value-index c.args.values.now ≡ c.value-item.result ∷ drop (suc c.loop-value.value-index) c.args.values.now =
    rw c.value-item.is (drop-cons c.args.values.now c.loop-value.value-index _ c.loop-value-test.true) in
    omega (arith, c.requires, c.in_ok-count.ensures.count, rw cut at c.loop-value.invariant.0)

pub values_spans-overflow_add-count-in-loop-value : goal.values_spans-overflow_add-count-in-loop-value
values_spans-overflow_add-count-in-loop-value t c =
    let cut : drop c.loop-value.value-index c.args.values.now ≡ c.value-item.result ∷ drop (suc c.loop-value.value-index) c.args.values.now =
    rw c.value-item.is (drop-cons c.args.values.now c.loop-value.value-index _ c.loop-value-test.true) in
    omega (arith, c.requires, c.in_ok-count.ensures.count, rw cut at c.loop-value.invariant.0)

pub expression_spans-returns-clause-count : goal.expression_spans-returns-clause-count
expression_spans-returns-clause-count t c =
    elim c.match-expression.branch [
      | expression_spans-in-Parenthesized+in_ok-expression_spans-in-Parenthesized w ↦ search (rules, the_lemmas)
      | expression_spans-in-Selection+in_ok-expression_spans-in-Selection w ↦ search (rules, the_lemmas)
      | expression_spans-in-Composite+in_ok-count-in-Composite w ↦ search (rules, the_lemmas)
      | expression_spans-in-Unary+in_ok-expression_spans-in-Unary w ↦ search (rules, the_lemmas)
      | expression_spans-in-Binary+in_ok-left-in-Binary+in_ok-right-in-Binary w ↦ search (rules, the_lemmas)
      | expression_spans-in-Make+in_ok-type_spans-in-Make w ↦ search (rules, the_lemmas)
      | expression_spans-in-MakeSized+in_ok-channel-in-MakeSized+in_ok-size-in-MakeSized w ↦ search (rules, the_lemmas)
      | expression_spans-in-Call+in_ok-count-in-Call w ↦ search (rules, the_lemmas)
      | expression_spans-in-Receive+in_ok-expression_spans-in-Receive w ↦ search (rules, the_lemmas)
      | expression_spans-in-Length+in_ok-expression_spans-in-Length w ↦ search (rules, the_lemmas)
      | expression_spans-in-Capacity+in_ok-expression_spans-in-Capacity w ↦ search (rules, the_lemmas)
      | expression_spans-in-Integer w ↦ search (rules, the_lemmas)
      | expression_spans-in-Integer-2 w ↦ search (rules, the_lemmas)
    ]

pub expression_spans-returns-clause-spans : goal.expression_spans-returns-clause-spans
expression_spans-returns-clause-spans t c =
    let all : under c.match-expression.spans.items (over c.args.tokens.now c.args.at c.match-expression.count) ≡ c.args.spans.now.items ++ expression_spans c.args.tokens.now c.args.at (expression_of c.args.expression.now) =
    elim c.match-expression.branch [
      | expression_spans-in-Parenthesized+in_ok-expression_spans-in-Parenthesized w ↦ search (rules, the_lemmas, append_assoc)
      | expression_spans-in-Selection+in_ok-expression_spans-in-Selection w ↦ search (rules, the_lemmas, append_assoc)
      | expression_spans-in-Composite+in_ok-count-in-Composite w ↦ search (rules, the_lemmas, append_assoc)
      | expression_spans-in-Unary+in_ok-expression_spans-in-Unary w ↦ search (rules, the_lemmas, append_assoc)
      | expression_spans-in-Binary+in_ok-left-in-Binary+in_ok-right-in-Binary w ↦ search (rules, the_lemmas, append_assoc)
      | expression_spans-in-Make+in_ok-type_spans-in-Make w ↦ search (rules, the_lemmas, append_assoc)
      | expression_spans-in-MakeSized+in_ok-channel-in-MakeSized+in_ok-size-in-MakeSized w ↦ search (rules, the_lemmas, append_assoc)
      | expression_spans-in-Call+in_ok-count-in-Call w ↦ search (rules, the_lemmas, append_assoc)
      | expression_spans-in-Receive+in_ok-expression_spans-in-Receive w ↦ search (rules, the_lemmas, append_assoc)
      | expression_spans-in-Length+in_ok-expression_spans-in-Length w ↦ search (rules, the_lemmas, append_assoc)
      | expression_spans-in-Capacity+in_ok-expression_spans-in-Capacity w ↦ search (rules, the_lemmas, append_assoc)
      | expression_spans-in-Integer w ↦ search (rules, the_lemmas, append_assoc)
      | expression_spans-in-Integer-2 w ↦ search (rules, the_lemmas, append_assoc)
    ] in
    rw all at c.add_node.ensures.spans
