use Rattle.std.proofs.Common.{◌^◌, length, arith}
use Rattle.key_index.proofs.Orders.{below_multiple}
use Rattle.key_index.proofs.heap.refill.Goals as goal

pub returns-then-place-heap-clause-steps : goal.returns-then-place-heap-clause-steps
returns-then-place-heap-clause-steps g c = λ d h.
    let f = c.sift.ensures.steps d d (below_multiple c.args.place (2 ^ d) (length c.args.heap.now) h) h in
    omega (arith, f)
