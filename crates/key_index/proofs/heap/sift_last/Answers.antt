use Rattle.std.proofs.Common.{arith, ◌≡◌, ◌≢◌, ◌+◌, ◌*◌, ◌≤◌, ◌<◌, false, ℕ, List, length, subst, sym}
use Rattle.logical_clock.specs.Order.{is_before}
use Rattle.key_index.specs.Heap.{key_at}
use Rattle.key_index.proofs.Orders.{not_before_self}
use Rattle.key_index.proofs.Holes.{down_hole, filled_on, moved_slot}
use Rattle.key_index.specs.declared.heap.Entry.{Entry}
use Rattle.key_index.proofs.heap.sift_last.Goals as goal

-- an only child is not before itself
only : (heap : List Entry) (q : ℕ) → length heap ≤ 2 * q + 2 → (i : ℕ) → i < length heap → 2 * q + 1 ≤ i → is_before (key_at heap i) (key_at heap (2 * q + 1)) ≡ false
only heap q last i il lo =
    let e : i ≡ 2 * q + 1 = omega arith in
    subst (λ (j : ℕ). is_before (key_at heap j) (key_at heap (2 * q + 1)) ≡ false) (sym e) (not_before_self (key_at heap (2 * q + 1)))

pub put-requires-clause-slot : goal.put-requires-clause-slot
put-requires-clause-slot g c =
    let apart : 2 * c.args.hole + 1 ≢ c.args.hole = omega arith in
    moved_slot _ _ _ _ _ _ c.index-heap-left.is c.requires.hole.within (omega arith) apart c.requires.hole

pub sift_up-requires-2-clause-hole : goal.sift_up-requires-2-clause-hole
sift_up-requires-2-clause-hole g c =
    let apart : 2 * c.args.hole + 1 ≢ c.args.hole = omega arith in
    let low : 2 * c.args.hole + 1 ≤ 2 * c.args.hole + 1 = omega arith in
    let high : 2 * c.args.hole + 1 ≤ 2 * c.args.hole + 2 = omega arith in
    rw (c.put.ensures.heap, c.put.ensures.places)
    (down_hole _ _ _ _ _ _ c.index-heap-left.is c.requires.hole.within (omega arith) apart low high c.requires.hole (λ i il lo hi. only c.args.heap.now c.args.hole c.requires.last i il lo))

pub returns-clause-filled : goal.returns-clause-filled
returns-clause-filled g c =
    let apart : 2 * c.args.hole + 1 ≢ c.args.hole = omega arith in
    filled_on _ _ _ _ _ _ c.index-heap-left.is c.requires.hole.within (omega arith) apart _ _ (rw (← c.put.ensures.heap, ← c.put.ensures.places) c.sift_up-2.ensures.filled)
