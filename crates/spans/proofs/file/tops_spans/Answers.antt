use Rattle.std.proofs.Common.{◌≡◌, ◌∷◌, ◌+◌, suc, ℕ, map, drop, arith, drop-cons, []}
use Rattle.std.proofs.lemmas.List.{append-nil, drop_all}
use Rattle.syntax.specs.View.{top_of}
use Rattle.spans.specs.Words.{top_step}
use Rattle.spans.specs.Places.{top_spans, tops_spans}
use Rattle.spans.proofs.Walks.{ends_within, next_count, next_spans}
use Rattle.spans.proofs.file.tops_spans.Goals as goal

pub overflow_add-at : goal.overflow_add-at
overflow_add-at c =
    omega (arith, c.requires, ends_within top_step top_of c.args.tops.now c.loop-top.top-index c.top-item.result c.loop-top.count _ c.top-item.is c.loop-top-test.true c.loop-top.invariant.0)

pub top_spans-requires : goal.top_spans-requires
top_spans-requires c =
    omega (arith, c.requires, ends_within top_step top_of c.args.tops.now c.loop-top.top-index c.top-item.result c.loop-top.count _ c.top-item.is c.loop-top-test.true c.loop-top.invariant.0)

pub overflow_add-count : goal.overflow_add-count
overflow_add-count c =
    omega (arith, c.requires, c.in_ok-count.ensures.count, ends_within top_step top_of c.args.tops.now c.loop-top.top-index c.top-item.result c.loop-top.count _ c.top-item.is c.loop-top-test.true c.loop-top.invariant.0)

pub overflow_add-count-in-loop-top : goal.overflow_add-count-in-loop-top
overflow_add-count-in-loop-top c =
    omega (arith, c.requires, c.in_ok-count.ensures.count, ends_within top_step top_of c.args.tops.now c.loop-top.top-index c.top-item.result c.loop-top.count _ c.top-item.is c.loop-top-test.true c.loop-top.invariant.0)

pub loop-top-preserved : goal.loop-top-preserved
loop-top-preserved c =
    let tokens = c.args.tokens.now in
    let count = c.loop-top.count in
    let first = top_of c.top-item.result in
    let rest = drop (suc c.loop-top.top-index) c.args.tops.now in
    let more : c.loop-top.top-index + 1 ≡ suc c.loop-top.top-index = omega arith in
    let cut : drop c.loop-top.top-index c.args.tops.now ≡ c.top-item.result ∷ rest = rw c.top-item.is (drop-cons c.args.tops.now c.loop-top.top-index _ c.loop-top-test.true) in
    rw more (
      next_count top_step first (map top_of rest) count (c.in_ok-count.field-0 + 1) _ (omega (arith, c.in_ok-count.ensures.count)) (rw cut at c.loop-top.invariant.0),
      next_spans (λ (at : ℕ). tops_spans tokens at (map top_of rest)) c.loop-top.spans.items (top_spans tokens (c.args.at + count) first) _ c.top_spans.new.spans.items (c.args.at + count + top_step first) (c.args.at + (count + (c.in_ok-count.field-0 + 1)))
          c.in_ok-count.ensures.spans (omega (arith, c.in_ok-count.ensures.count)) (rw cut at c.loop-top.invariant.1),
    )

pub returns-clause-count : goal.returns-clause-count
returns-clause-count c =
    let none : drop c.loop-top.top-index c.args.tops.now ≡ [] = drop_all c.loop-top.top-index c.args.tops.now c.loop-top-test.false in
    omega (arith, rw none at c.loop-top.invariant.0)

pub returns-clause-spans : goal.returns-clause-spans
returns-clause-spans c =
    let none : drop c.loop-top.top-index c.args.tops.now ≡ [] = drop_all c.loop-top.top-index c.args.tops.now c.loop-top-test.false in
    rw append-nil at (rw none at c.loop-top.invariant.1)
