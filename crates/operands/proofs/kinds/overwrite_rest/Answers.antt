use Rattle.std.proofs.Common.{◌+◌, ◌<◌, length, take, ap, arith, sym, ◌∙◌, slice_set, pos}
use Rattle.std.proofs.lemmas.List.{length-set, take_more_set}
use Rattle.bytecode.specs.declared.instr.WordKind.TheVariants as kinds
use Rattle.bytecode.specs.Machine.{zero_of}
use Rattle.operands.proofs.Fitting.{zeros_more}
use Rattle.word.specs.declared.value.Word.TheVariants.{Int}
use Rattle.operands.proofs.kinds.overwrite_rest.Goals as goal

pub loop-index-preserved : goal.loop-index-preserved
loop-index-preserved c =
    let i = c.loop-index.index in
    let made = c.loop-index.made in
    let w = Int (pos 0) in
    let before = c.loop-index.invariant in
    let same = before.same in
    let below = c.loop-index-test.true in
    let within : i < length made = omega (arith, same, below) in
    record {
      same = length-set made i w ∙ same;
      words = zeros_more (take i made) (take (i + 1) (slice_set made i w)) _ c.args.kinds.now i kinds.Int w below before.words (sym (ap zero_of c.in-Int.is)) (take_more_set made i w within);
    }
