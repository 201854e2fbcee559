use Rattle.std.proofs.Common.{◌≡◌, ◌+◌, ◌∷◌, suc, ap, drop, drop-cons, arith, vec_capacity, vec_len}
use Rattle.awake_rows.specs.Living.{Living}
use Rattle.word.specs.Views.{reply_of}
use Rattle.world_core_base.proofs.Roused.{next_room, next_wakes}
use Rattle.world_core_base.proofs.waking.wake.Goals as goal

pub loop-one-preserved : goal.loop-one-preserved
loop-one-preserved c =
    let i = c.loop-one.one-index in
    let all = c.args.woken.now in
    let partners = c.push_reserved.new.self in
    let cut : drop i all ≡ c.one-item.result ∷ drop (suc i) all = rw c.one-item.is (drop-cons all i _ c.loop-one-test.true) in
    let more : i + 1 ≡ suc i = omega arith in
    let was = rw cut at c.loop-one.invariant.0 in (
      rw more (rw c.push_reserved.ensures.capacity (next_wakes c.args.code.now c.args.clock c.loop-one.goroutines.rows c.args.goroutines.now.rows c.wake.new.self.rows c.loop-one.goroutines.beds c.args.goroutines.now.beds c.wake.new.self.beds c.one-item.result (drop (suc i) all) all c.loop-one.partners.items c.args.partners.now.items partners.items (vec_len c.loop-one.partners) (vec_capacity c.loop-one.partners) (vec_len partners) c.number-number.result (reply_of c.reply.result.now)
          was c.number-number.ensures c.reply.ensures (ap (λ (l : Living). l.rows) c.wake.ensures) (ap (λ (l : Living). l.beds) c.wake.ensures) c.push_reserved.ensures.items c.push_reserved.ensures.len)),
      rw more (next_room (drop (suc i) all) c.one-item.result c.loop-one.rooms.items c.pop.new.self.items c.in-Some.room (rw cut at c.loop-one.invariant.1) c.in-Some.ensures.items),
    )
