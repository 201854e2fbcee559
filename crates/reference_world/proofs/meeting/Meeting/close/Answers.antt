use Rattle.std.proofs.Common.{ℕ, List, ap, sym, ◌∙◌}
use Rattle.std.specs.Vec.{with_items}
use Rattle.word.specs.Values.{Reply, Sleeper}
use Rattle.word.specs.Requests.{partners, without_all}
use Rattle.reference_world.specs.Deeds.{MeetingValue, closed_for}
use Rattle.reference_world.proofs.Serving.{closes, written}
use Rattle.reference_world.proofs.meeting.Meeting.close.Goals as goal

pub returns : goal.returns
returns c n q h v k =
    closes h v c.args.self.now n k q c.args.chan c.in-Some.chan c.zero-zero.result _ (with_items c.self.inside.channels c.close.new.channels).items _ _ _ c.in-Some.is (sym c.is_closed.ensures ∙ c.if-is_closed.false) c.zero-zero.ensures
    (c.as_mut_slice.ensures.value ∙ ap (λ (m : MeetingValue). m.channels) c.self.view_is) (ap (λ (m : MeetingValue). m.asleep) c.self.view_is)
    (c.in_ok-woken.ensures ∙ ap (λ (ss : List Sleeper). closed_for c.zero-zero.result (partners c.in-Some.chan ss)) c.as_slice.ensures.value)
    (c.leave_all.ensures ∙ ap (λ (ws : List (ℕ × Reply)). without_all c.self.inside.asleep.items ws) c.as_slice-2.ensures.value)
    (written c.self.inside.channels c.close.new.channels _ c.in-Some.chan _ c.as_mut_slice.ensures.value c.close.ensures)
