use Rattle.std.proofs.Common.{◌≡◌, ◌∷◌, ◌+◌, suc, drop, drop-cons, map, arith}
use Rattle.std.proofs.lemmas.List.Sums.{sum_by-cons}
use Rattle.syntax.specs.Measures.{top_size}
use Rattle.syntax.specs.View.{top_of}
use Rattle.codegen_expression.proofs.noting.elements_in.Goals as goal

pub loop-top-preserved : goal.loop-top-preserved
loop-top-preserved c =
    let at = c.loop-top.top-index in
    let tops = c.args.tops.now in
    let top = c.top-item.result in
    let more : at + 1 ≡ suc at = omega arith in
    let cut : drop at tops ≡ top ∷ drop (suc at) tops = rw c.top-item.is (drop-cons tops at _ c.loop-top-test.true) in
    let here = c.in_ok-note_top.ensures in
    let sum = sum_by-cons top_size (top_of top) (map top_of (drop (suc at) tops)) in
    record {
      noted = rw (more, here.noted) (rw cut at c.loop-top.invariant.noted);
      count = rw more (omega (arith, here.count, sum, rw cut at c.loop-top.invariant.count));
    }
