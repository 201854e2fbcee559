use Rattle.std.proofs.Common.{arith, refl}
use Rattle.trace_comparison.specs.Counting.{event_at}
use Rattle.trace_comparison.specs.Requests.{events_of}
use Rattle.trace_comparison.proofs.Steps.{can_count, counts_step, first_step, number_fits, is_counted_from_one, unmatched_here}
use Rattle.trace_comparison.proofs.unmatched.first_unmatched.Goals as goal

pub add-requires : goal.add-requires
add-requires c = can_count c.args.lines.now c.loop-index.index _ c.loop-index-test.true c.loop-index.counts (omega arith) c.loop-index.invariant.counts

pub has_request-requires : goal.has_request-requires
has_request-requires c =
    is_counted_from_one c.args.lines.now c.loop-index.index _ c.loop-index-test.true (events_of c.args.others.now) c.loop-index.counts c.add.new.self c.in_ok-before.before
    c.in_ok-before.ensures c.loop-index.invariant.counts (event_at c.args.places.now) c.requires.0 c.event-there.result c.event-there.ensures

pub overflow_add-result : goal.overflow_add-result
overflow_add-result c =
    omega (arith, number_fits c.args.lines.now c.loop-index.index _ c.loop-index-test.true c.loop-index.counts c.add.new.self c.in_ok-before.before c.in_ok-before.ensures c.loop-index.invariant.counts)

pub returns-then-not-has_request : goal.returns-then-not-has_request
returns-then-not-has_request c =
    unmatched_here c.args.lines.now c.loop-index.index _ c.loop-index-test.true (events_of c.args.others.now) c.loop-index.counts c.add.new.self c.in_ok-before.before
    c.in_ok-before.ensures c.loop-index.invariant.counts (event_at c.args.places.now) c.requires.0 c.event-there.result c.event-there.ensures c.loop-index.invariant.first
    c.if-not-has_request.ensures.1

pub loop-index-preserved : goal.loop-index-preserved
loop-index-preserved c =
    record {
      first = first_step c.args.lines.now c.loop-index.index _ c.loop-index-test.true (events_of c.args.others.now) c.loop-index.counts c.add.new.self c.in_ok-before.before
          c.in_ok-before.ensures c.loop-index.invariant.counts (event_at c.args.places.now) c.requires.0 c.event-there.result c.event-there.ensures c.loop-index.invariant.first
          (c.if-not-has_request.ensures.0 refl);
      counts = counts_step c.args.lines.now c.loop-index.index _ c.loop-index-test.true c.loop-index.counts c.add.new.self c.in_ok-before.before c.in_ok-before.ensures
          c.loop-index.invariant.counts;
    }
