use Rattle.std.proofs.Common.{arith}
use Rattle.std.specs.BTreeMap.{get}
use Rattle.trace_comparison.specs.Counting.{name_cmp}
use Rattle.trace_comparison.proofs.Steps.{can_count, counts_step, places_step}
use Rattle.trace_comparison.proofs.places.Places.of.Goals as goal

pub add-requires : goal.add-requires
add-requires c = can_count c.args.lines.now c.loop-index.index _ c.loop-index-test.true c.loop-index.counts (omega arith) c.loop-index.invariant.counts

pub loop-index-preserved : goal.loop-index-preserved
loop-index-preserved c =
    record {
      places = places_step c.args.lines.now c.loop-index.index _ c.loop-index-test.true c.loop-index.counts c.add.new.self c.in_ok-before.before c.in_ok-before.ensures
          c.loop-index.invariant.counts (get name_cmp c.loop-index.events) (get name_cmp c.insert.new.self) c.loop-index.invariant.places c.in_ok-insert.ensures.updates.0;
      counts = counts_step c.args.lines.now c.loop-index.index _ c.loop-index-test.true c.loop-index.counts c.add.new.self c.in_ok-before.before c.in_ok-before.ensures
          c.loop-index.invariant.counts;
    }
