use Rattle.std.proofs.Common.{◌≡◌, ◌∷◌, ◌+◌, suc, ℕ, map, drop, arith, drop-cons, []}
use Rattle.std.proofs.lemmas.List.{append-nil, drop_all}
use Rattle.syntax.specs.View.{declared_of}
use Rattle.spans.specs.Words.{group_step}
use Rattle.spans.specs.Places.{group_spans, groups_spans}
use Rattle.spans.proofs.Walks.{ends_within, next_count, next_spans}
use Rattle.spans.proofs.file.groups_spans.Goals as goal

pub overflow_add-at : goal.overflow_add-at
overflow_add-at c =
    omega (arith, c.requires, ends_within group_step declared_of c.args.groups.now c.loop-group.group-index c.group-item.result c.loop-group.count _ c.group-item.is c.loop-group-test.true c.loop-group.invariant.0)

pub group_spans-requires : goal.group_spans-requires
group_spans-requires c =
    omega (arith, c.requires, ends_within group_step declared_of c.args.groups.now c.loop-group.group-index c.group-item.result c.loop-group.count _ c.group-item.is c.loop-group-test.true c.loop-group.invariant.0)

pub overflow_add-count : goal.overflow_add-count
overflow_add-count c =
    omega (arith, c.requires, c.in_ok-count.ensures.count, ends_within group_step declared_of c.args.groups.now c.loop-group.group-index c.group-item.result c.loop-group.count _ c.group-item.is c.loop-group-test.true c.loop-group.invariant.0)

pub overflow_add-count-in-loop-group : goal.overflow_add-count-in-loop-group
overflow_add-count-in-loop-group c =
    omega (arith, c.requires, c.in_ok-count.ensures.count, ends_within group_step declared_of c.args.groups.now c.loop-group.group-index c.group-item.result c.loop-group.count _ c.group-item.is c.loop-group-test.true c.loop-group.invariant.0)

pub loop-group-preserved : goal.loop-group-preserved
loop-group-preserved c =
    let tokens = c.args.tokens.now in
    let count = c.loop-group.count in
    let first = declared_of c.group-item.result in
    let rest = drop (suc c.loop-group.group-index) c.args.groups.now in
    let more : c.loop-group.group-index + 1 ≡ suc c.loop-group.group-index = omega arith in
    let cut : drop c.loop-group.group-index c.args.groups.now ≡ c.group-item.result ∷ rest = rw c.group-item.is (drop-cons c.args.groups.now c.loop-group.group-index _ c.loop-group-test.true) in
    rw more (
      next_count group_step first (map declared_of rest) count (c.in_ok-count.field-0 + 1) _ (omega (arith, c.in_ok-count.ensures.count)) (rw cut at c.loop-group.invariant.0),
      next_spans (λ (at : ℕ). groups_spans tokens at (map declared_of rest)) c.loop-group.spans.items (group_spans tokens (c.args.at + count) first) _ c.group_spans.new.spans.items (c.args.at + count + group_step first) (c.args.at + (count + (c.in_ok-count.field-0 + 1)))
          c.in_ok-count.ensures.spans (omega (arith, c.in_ok-count.ensures.count)) (rw cut at c.loop-group.invariant.1),
    )

pub returns-clause-spans : goal.returns-clause-spans
returns-clause-spans c =
    let none : drop c.loop-group.group-index c.args.groups.now ≡ [] = drop_all c.loop-group.group-index c.args.groups.now c.loop-group-test.false in
    rw append-nil at (rw none at c.loop-group.invariant.1)
