use Rattle.std.proofs.Common.{arith, ◌≢◌, ◌+◌, ◌*◌, ◌≤◌}
use Rattle.key_index.proofs.Orders.{deeper}
use Rattle.key_index.proofs.Holes.{down_hole, filled_on, moved_slot}
use Rattle.key_index.proofs.heap.+sift.Goals as goal

pub put-requires-clause-slot : goal.put-requires-clause-slot
put-requires-clause-slot g t c =
    let apart : c.lesser_child-child.result ≢ c.args.hole = omega arith in
    moved_slot _ _ _ _ _ _ c.index-heap-child.is c.requires.within (omega arith) apart c.requires

pub sift-requires : goal.sift-requires
sift-requires g t c κs within =
    let apart : c.lesser_child-child.result ≢ c.args.hole = omega arith in
    let low : 2 * c.args.hole + 1 ≤ c.lesser_child-child.result = omega arith in
    let high : c.lesser_child-child.result ≤ 2 * c.args.hole + 2 = omega arith in (
      omega arith,
      (
        within,
        rw (c.put.ensures.heap, c.put.ensures.places) (down_hole _ _ _ _ _ _ c.index-heap-child.is c.requires.within (omega arith) apart low high c.requires c.lesser_child-child.ensures.least),
      ),
    )

pub returns-clause-filled : goal.returns-clause-filled
returns-clause-filled g t c =
    let apart : c.lesser_child-child.result ≢ c.args.hole = omega arith in
    filled_on _ _ _ _ _ _ c.index-heap-child.is c.requires.within (omega arith) apart _ _ (rw (← c.put.ensures.heap, ← c.put.ensures.places) c.sift.ensures.filled)

pub returns-clause-steps : goal.returns-clause-steps
returns-clause-steps g t c = λ d e h k.
    let f = deeper c.args.hole c.lesser_child-child.result _ d (omega arith) (omega arith) h in
    let s = c.sift.ensures.steps f.0 e (omega (arith, f.3)) (omega (arith, k)) in
    omega (arith, f.1, s, c.lesser_child-child.ensures.steps)
