use Rattle.std.proofs.Common.{◌≡◌, ◌∷◌, ◌+◌, suc, ℕ, map, drop, arith, drop-cons, []}
use Rattle.std.proofs.lemmas.List.{append-nil, drop_all}
use Rattle.syntax.specs.View.{part_of}
use Rattle.spans.specs.Words.{part_step}
use Rattle.spans.specs.Places.{part_spans, parts_spans}
use Rattle.spans.proofs.Walks.{ends_within, next_count, next_spans}
use Rattle.spans.proofs.simple.parts_spans.Goals as goal

pub overflow_add-at : goal.overflow_add-at
overflow_add-at c =
    omega (arith, c.requires, ends_within part_step part_of c.args.parts.now c.loop-part.part-index c.part-item.result c.loop-part.count _ c.part-item.is c.loop-part-test.true c.loop-part.invariant.0)

pub part_spans-requires : goal.part_spans-requires
part_spans-requires c =
    omega (arith, c.requires, ends_within part_step part_of c.args.parts.now c.loop-part.part-index c.part-item.result c.loop-part.count _ c.part-item.is c.loop-part-test.true c.loop-part.invariant.0)

pub overflow_add-count : goal.overflow_add-count
overflow_add-count c =
    omega (arith, c.requires, c.in_ok-count.ensures.count, ends_within part_step part_of c.args.parts.now c.loop-part.part-index c.part-item.result c.loop-part.count _ c.part-item.is c.loop-part-test.true c.loop-part.invariant.0)

pub overflow_add-count-in-loop-part : goal.overflow_add-count-in-loop-part
overflow_add-count-in-loop-part c =
    omega (arith, c.requires, c.in_ok-count.ensures.count, ends_within part_step part_of c.args.parts.now c.loop-part.part-index c.part-item.result c.loop-part.count _ c.part-item.is c.loop-part-test.true c.loop-part.invariant.0)

pub loop-part-preserved : goal.loop-part-preserved
loop-part-preserved c =
    let tokens = c.args.tokens.now in
    let count = c.loop-part.count in
    let first = part_of c.part-item.result in
    let rest = drop (suc c.loop-part.part-index) c.args.parts.now in
    let more : c.loop-part.part-index + 1 ≡ suc c.loop-part.part-index = omega arith in
    let cut : drop c.loop-part.part-index c.args.parts.now ≡ c.part-item.result ∷ rest = rw c.part-item.is (drop-cons c.args.parts.now c.loop-part.part-index _ c.loop-part-test.true) in
    rw more (
      next_count part_step first (map part_of rest) count (c.in_ok-count.field-0 + 1) _ (omega (arith, c.in_ok-count.ensures.count)) (rw cut at c.loop-part.invariant.0),
      next_spans (λ (at : ℕ). parts_spans tokens at (map part_of rest)) c.loop-part.spans.items (part_spans tokens (c.args.at + count) first) _ c.part_spans.new.spans.items (c.args.at + count + part_step first) (c.args.at + (count + (c.in_ok-count.field-0 + 1)))
          c.in_ok-count.ensures.spans (omega (arith, c.in_ok-count.ensures.count)) (rw cut at c.loop-part.invariant.1),
    )

pub returns-clause-count : goal.returns-clause-count
returns-clause-count c =
    let none : drop c.loop-part.part-index c.args.parts.now ≡ [] = drop_all c.loop-part.part-index c.args.parts.now c.loop-part-test.false in
    omega (arith, rw none at c.loop-part.invariant.0)

pub returns-clause-spans : goal.returns-clause-spans
returns-clause-spans c =
    let none : drop c.loop-part.part-index c.args.parts.now ≡ [] = drop_all c.loop-part.part-index c.args.parts.now c.loop-part-test.false in
    rw append-nil at (rw none at c.loop-part.invariant.1)
