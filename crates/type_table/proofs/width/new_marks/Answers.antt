use Rattle.std.proofs.Common.{arith}
use Rattle.std.proofs.lemmas.Grind.{common_steps}
use Rattle.type_table.proofs.Widths.{new-append}
use Rattle.type_table.proofs.width.new_marks.Goals as goal

pub loop-number-preserved : goal.loop-number-preserved
loop-number-preserved c = record {
  count = let e = c.in_ok-push.ensures.items in let n = c.loop-number.invariant.count in rw e (grind (arith, common_steps, n));
  new = λ o m h. new-append c.loop-number.marks.items c.loop-number.invariant.new o m (rw c.in_ok-push.ensures.items at h);
}
