use Rattle.std.proofs.Common.{◌∷◌, [], ap, unwrap_or, ◌∙◌}
use Rattle.std.specs.Vec.{with_items}
use Rattle.word.specs.Values.{Offer, Reply}
use Rattle.word.specs.Requests.{sent}
use Rattle.reference_world.specs.Deeds.{MeetingValue}
use Rattle.reference_world.proofs.Serving.{served, written}
use Rattle.reference_world.proofs.meeting.Meeting.receive_from.Goals as goal

pub returns : goal.returns
returns c n q x meets h v c' =
    served h v c.args.self.now n c' q c.args.chan c.args.clause x c.args.partner _ (with_items c.self.inside.channels c.exchange.new.channels).items _ _ _ _ _ _ meets (c.as_mut_slice.ensures.value ∙ ap (λ (m : MeetingValue). m.channels) c.self.view_is)
    (ap (λ (m : MeetingValue). m.asleep) c.self.view_is) (c.item_or_empty-offered.ensures ∙ ap (λ (o : Offer). unwrap_or o.item []) c.offer.view_is) c.in_ok-item.ensures.front
    (written c.self.inside.channels c.exchange.new.channels _ c.args.chan _ c.as_mut_slice.ensures.value c.in_ok-item.ensures.rest)
    c.leave.ensures c.got.ensures (c.in_ok-woken.ensures ∙ ap (λ (r : Reply). (c.args.partner.number, r) ∷ []) (c.sent.ensures ∙ ap (λ (o : Offer). sent o.case) c.offer.view_is))
