use Rattle.std.proofs.Common.{◌≡◌, ◌++◌, ◌∷◌, List, [], ap, sym, arith, ◌∙◌, ℕ, suc, length}
use Rattle.word.specs.Requests.{partners, without, without_all}
use Rattle.word.specs.Values.{Reply, Sleeper}
use Rattle.channel_core.specs.Channels.{closed_for}
use Rattle.channel_core.proofs.Meeting.{one_fewer, told_one, without_all-more}
use Rattle.channel_core.proofs.Offered.{partners_few}
use Rattle.channel_core.proofs.sleepers.Sleepers.close.Goals as goal

pub loop-first-init : goal.loop-first-init
loop-first-init c =
    let items : c.reserve.new.self.items ≡ [] = c.reserve.ensures.items ∙ c.new-woken.ensures.items in
    record {
      woken = ap (λ (l : List (ℕ × Reply)). l ++ closed_for c.args.zero.now (partners c.args.chan c.args.self.now)) items;
      left = ap (λ (l : List (ℕ × Reply)). without_all c.args.self.now l) (sym items);
      room = omega (arith, partners_few c.args.chan c.args.self.now, c.in_ok-reserve.ensures.ok, c.offers_at.ensures);
    }

pub loop-first-preserved : goal.loop-first-preserved
loop-first-preserved c =
    let z = c.args.zero.now in
    let before = c.loop-first.self in
    let w = c.in-Some.first in
    let told = c.loop-first.woken.items in
    let items : c.push_reserved.new.self.items ≡ told ++ w ∷ [] = c.push_reserved.ensures.items in
    let left : c.leave.new.self ≡ without before w.0 = c.leave.ensures ∙ ap (λ (n : ℕ). without before n) c.number.ensures in
    let fewer : length (partners c.args.chan before) ≡ suc (length (partners c.args.chan (without before w.0))) = one_fewer c.args.chan z before w c.in-Some.ensures.some in
    let size : length (partners c.args.chan c.leave.new.self) ≡ length (partners c.args.chan (without before w.0)) = ap (λ (ss : List Sleeper). length (partners c.args.chan ss)) left in
    record {
      woken = ap (λ (l : List (ℕ × Reply)). l ++ closed_for z (partners c.args.chan c.leave.new.self)) items
          ∙ ap (λ (ss : List Sleeper). (told ++ w ∷ []) ++ closed_for z (partners c.args.chan ss)) left
          ∙ told_one c.args.chan z before w c.in-Some.ensures.some told (closed_for z (partners c.args.chan c.args.self.now)) c.loop-first.invariant.woken;
      left = left ∙ ap (λ (ss : List Sleeper). without ss w.0) c.loop-first.invariant.left ∙ sym (without_all-more c.args.self.now told w)
          ∙ ap (λ (l : List (ℕ × Reply)). without_all c.args.self.now l) (sym items);
      room = omega (arith, fewer, size, c.loop-first.invariant.room, c.push_reserved.ensures.len, c.push_reserved.ensures.capacity);
    }
