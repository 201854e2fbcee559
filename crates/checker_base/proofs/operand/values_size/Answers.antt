use Rattle.std.proofs.Common.{◌≡◌, ◌∷◌, ◌+◌, suc, drop, drop-cons, arith}
use Rattle.checker_base.proofs.operand.values_size.Goals as goal

pub loop-value-preserved : goal.loop-value-preserved
loop-value-preserved c =
    let left = drop (suc c.loop-value.value-index) c.args.values.now in
    let more : c.loop-value.value-index + 1 ≡ suc c.loop-value.value-index = omega arith in
    let cut : drop c.loop-value.value-index c.args.values.now ≡ c.value-item.result ∷ left = rw c.value-item.is (drop-cons c.args.values.now c.loop-value.value-index _ c.loop-value-test.true) in
    rw more (omega (arith, c.expression_size-size.ensures, rw cut at c.loop-value.invariant))
