use Rattle.std.proofs.Common.{◌≡◌, true, ap, sym, ◌∙◌}
use Rattle.std.specs.Vec.{with_items}
use Rattle.reference_world.specs.Deeds.{MeetingValue}
use Rattle.reference_world.proofs.Serving.{sent_alone, sent_to, written}
use Rattle.word.specs.Requests.{got}
use Rattle.reference_world.specs.declared.sleeper.Partner.{Partner}
use Rattle.reference_world.proofs.meeting.Meeting.do_send.Goals as goal
use Rattle.reference_world.proofs.meeting.Meeting.do_send.Goals.{in-None-2, in-Some-2}

pub returns-in_ok-push-in-None : goal.returns-in_ok-push-in-None
returns-in_ok-push-in-None c n q h v c' =
    sent_alone h v c.args.self.now n c' q c.args.chan c.args.item c.args.clause _ (with_items c.self.inside.channels c.push.new.channels).items _ _ _ (sym c.is_closed.ensures ∙ c.if-is_closed.false) c.in-None.ensures
    (c.as_mut_slice.ensures.value ∙ ap (λ (m : MeetingValue). m.channels) c.self.view_is) (ap (λ (m : MeetingValue). m.asleep) c.self.view_is)
    (written c.self.inside.channels c.push.new.channels _ c.args.chan _ c.as_mut_slice.ensures.value c.in_ok-push-in-None.ensures) c.sent-in-None.ensures c.new.ensures.items

pub returns-in_ok-woken-in-Some : goal.returns-in_ok-woken-in-Some
returns-in_ok-woken-in-Some c n q h v c' =
    let now_is : c.match-partner-3.self ≡ record { asleep = c.leave.new.asleep.items; channels = c.self.inside.channels.items } = elim c.match-partner-3.branch [ in-Some-2 w ↦ w.self-is | in-None-2 w ↦ w.self-is ] in
    sent_to h v c.args.self.now n c' q c.args.chan c.args.item c.args.clause c.in-Some.partner c.match-partner-3.self c.self.inside.channels.items c.self.inside.asleep.items c.leave.new.asleep.items _ _ _ _
    (sym c.is_closed.ensures ∙ c.if-is_closed.false) c.in-Some.ensures (ap (λ (m : MeetingValue). m.channels) c.self.view_is) (ap (λ (m : MeetingValue). m.asleep) c.self.view_is) now_is
    (ap (λ (p : Partner). p.number) c.partner-in-Some.view_is) (c.got-told.ensures ∙ ap (λ (p : Partner). got p.offer.case c.args.item true) c.partner-in-Some.view_is)
    c.leave.ensures c.sent.ensures c.in_ok-woken-in-Some.ensures
