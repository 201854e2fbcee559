use Rattle.std.proofs.Common.{refl}
use Rattle.trace_comparison.specs.Comparing.{part_of}
use Rattle.trace_comparison.proofs.First.{other_here, same_more, within_more, other_after, same_all}
use Rattle.trace_comparison.proofs.comparison.first_other.Goals as goal

pub returns-then-not-has_line : goal.returns-then-not-has_line
returns-then-not-has_line c =
    other_here (part_of c.args.part) c.args.run.now c.args.recorded.now c.loop-index.index c.loop-index.invariant.same _ c.loop-index-test.true c.if-not-has_line.ensures.1

pub loop-index-preserved : goal.loop-index-preserved
loop-index-preserved c =
    let there = c.if-not-has_line.ensures.0 refl in
    record {
      same = same_more (part_of c.args.part) c.args.run.now c.args.recorded.now c.loop-index.index c.loop-index.invariant.same _ c.loop-index-test.true there;
      within = within_more (part_of c.args.part) c.args.run.now c.args.recorded.now c.loop-index.index c.loop-index.invariant.same _ there;
    }

pub returns-then-run-recorded : goal.returns-then-run-recorded
returns-then-run-recorded c =
    other_after (part_of c.args.part) c.args.run.now c.args.recorded.now c.loop-index.index c.loop-index.invariant.same c.loop-index-test.false c.loop-index.auto.index-end c.if-run-recorded.true

pub returns-else-run-recorded : goal.returns-else-run-recorded
returns-else-run-recorded c =
    same_all (part_of c.args.part) c.args.run.now c.args.recorded.now c.loop-index.index c.loop-index.invariant.same c.loop-index-test.false c.loop-index.auto.index-end
    c.loop-index.invariant.within c.if-run-recorded.false
