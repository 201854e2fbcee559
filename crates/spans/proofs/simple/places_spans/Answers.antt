use Rattle.std.proofs.Common.{◌≡◌, [], ◌∷◌, ◌+◌, suc, ℕ, map, drop, arith, drop-cons}
use Rattle.std.proofs.lemmas.List.{append-nil, drop_all}
use Rattle.syntax.specs.View.{place_of}
use Rattle.spans.specs.Words.{place_step}
use Rattle.spans.specs.Places.{place_span, places_spans}
use Rattle.spans.proofs.Walks.{ends_within, next_count, next_spans}
use Rattle.spans.proofs.simple.places_spans.Goals as goal

pub overflow_add-at : goal.overflow_add-at
overflow_add-at c =
    omega (arith, c.requires, ends_within place_step place_of c.args.places.now c.loop-place.place-index c.place-item.result c.loop-place.count _ c.place-item.is c.loop-place-test.true c.loop-place.invariant.0)

pub place_span-requires : goal.place_span-requires
place_span-requires c =
    omega (arith, c.requires, ends_within place_step place_of c.args.places.now c.loop-place.place-index c.place-item.result c.loop-place.count _ c.place-item.is c.loop-place-test.true c.loop-place.invariant.0)

pub overflow_add-count : goal.overflow_add-count
overflow_add-count c =
    omega (arith, c.requires, c.in_ok-count.ensures.count, ends_within place_step place_of c.args.places.now c.loop-place.place-index c.place-item.result c.loop-place.count _ c.place-item.is c.loop-place-test.true c.loop-place.invariant.0)

pub overflow_add-count-in-loop-place : goal.overflow_add-count-in-loop-place
overflow_add-count-in-loop-place c =
    omega (arith, c.requires, c.in_ok-count.ensures.count, ends_within place_step place_of c.args.places.now c.loop-place.place-index c.place-item.result c.loop-place.count _ c.place-item.is c.loop-place-test.true c.loop-place.invariant.0)

pub loop-place-preserved : goal.loop-place-preserved
loop-place-preserved c =
    let tokens = c.args.tokens.now in
    let count = c.loop-place.count in
    let first = place_of c.place-item.result in
    let rest = drop (suc c.loop-place.place-index) c.args.places.now in
    let more : c.loop-place.place-index + 1 ≡ suc c.loop-place.place-index = omega arith in
    let cut : drop c.loop-place.place-index c.args.places.now ≡ c.place-item.result ∷ rest = rw c.place-item.is (drop-cons c.args.places.now c.loop-place.place-index _ c.loop-place-test.true) in
    rw more (
      next_count place_step first (map place_of rest) count (c.in_ok-count.field-0 + 1) _ (omega (arith, c.in_ok-count.ensures.count)) (rw cut at c.loop-place.invariant.0),
      next_spans (λ (at : ℕ). places_spans tokens at (map place_of rest)) c.loop-place.spans.items (place_span tokens (c.args.at + count) first ∷ []) _ c.place_span.new.spans.items (c.args.at + count + place_step first) (c.args.at + (count + (c.in_ok-count.field-0 + 1)))
          c.in_ok-count.ensures.spans (omega (arith, c.in_ok-count.ensures.count)) (rw cut at c.loop-place.invariant.1),
    )

pub returns-clause-count : goal.returns-clause-count
returns-clause-count c =
    let none : drop c.loop-place.place-index c.args.places.now ≡ [] = drop_all c.loop-place.place-index c.args.places.now c.loop-place-test.false in
    omega (arith, rw none at c.loop-place.invariant.0)

pub returns-clause-spans : goal.returns-clause-spans
returns-clause-spans c =
    let none : drop c.loop-place.place-index c.args.places.now ≡ [] = drop_all c.loop-place.place-index c.args.places.now c.loop-place-test.false in
    rw append-nil at (rw none at c.loop-place.invariant.1)
