use Rattle.std.proofs.Common.{◌+◌, ◌<◌, length, take, arith, ◌∙◌, slice_set}
use Rattle.std.proofs.lemmas.List.{length-set, take_more_set}
use Rattle.operands.proofs.Fitting.{zeros_more}
use Rattle.operands.proofs.kinds.overwrite_any.Goals as goal

pub loop-index-preserved : goal.loop-index-preserved
loop-index-preserved c =
    let i = c.loop-index.index in
    let made = c.loop-index.made in
    let w = c.zero_of.result in
    let before = c.loop-index.invariant in
    let same = before.same in
    let below = c.loop-index-test.true in
    let within : i < length made = omega (arith, same, below) in
    record {
      same = length-set made i w ∙ same;
      words = zeros_more (take i made) (take (i + 1) (slice_set made i w)) _ c.args.kinds.now i _ w below before.words c.zero_of.ensures (take_more_set made i w within);
    }
