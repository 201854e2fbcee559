use Rattle.std.proofs.Common.{◌≡◌, ◌∷◌, ◌+◌, ◌∙◌, suc, drop, drop-cons, map, arith}
use Rattle.syntax.specs.View.{top_of}
use Rattle.codegen.proofs.program.put_tops.Goals as goal

pub loop-top-preserved : goal.loop-top-preserved
loop-top-preserved c =
    let at = c.loop-top.top-index in
    let tops = c.args.tops.now in
    let rest = map top_of (drop (suc at) tops) in
    let more : at + 1 ≡ suc at = omega arith in
    let cut : drop at tops ≡ c.top-item.result ∷ drop (suc at) tops = rw c.top-item.is (drop-cons tops at _ c.loop-top-test.true) in
    let here = c.in_ok-put_top.ensures in
    record {
      functions = rw more (here.functions rest ∙ rw cut at c.loop-top.invariant.functions);
      prints = rw more (here.prints rest ∙ rw cut at c.loop-top.invariant.prints);
      selects = rw more (here.selects rest ∙ rw cut at c.loop-top.invariant.selects);
    }
