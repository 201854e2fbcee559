use Rattle.std.proofs.Common.{ap, ◌++◌, ◌∷◌, [], ◌∙◌, ◌≡◌, List}
use Rattle.std.specs.Prelude.{false, option_map, slice_set}
use Rattle.std.specs.Vec.{with_items}
use Rattle.word.specs.Requests.{channel_of, partner, without}
use Rattle.word.specs.Values.{Channel}
use Rattle.channel_core.specs.Channels.{ChannelsValue, met, partner_of}
use Rattle.channel_core.proofs.Deeds.{few_still, on_err_always, send_buffered, send_closed, send_met, unwritten, written}
use Rattle.channel_core.proofs.channels.Channels.send_now.Goals as goal

pub returns-then-is_closed-clause-sends : goal.returns-then-is_closed-clause-sends
returns-then-is_closed-clause-sends c = send_closed c.args.self.now c.args.number c.args.chan c.args.item.now c.args.clause c.if-is_closed.ensures

pub returns-in_ok-wake_with-in-Some-clause-sends : goal.returns-in_ok-wake_with-in-Some-clause-sends
returns-in_ok-wake_with-in-Some-clause-sends c =
    send_met c.args.self.now c.args.number c.args.chan c.args.item.now c.args.clause (record { channels = c.self.inside.channels.items; asleep = c.leave.new.self }) (met c.in-Some.partner) c.tell_sent.new.outcome c.wake_with.new.woken
    c.if-is_closed.ensures (c.in-Some.ensures ∙ ap (λ (v : ChannelsValue). option_map partner_of (partner c.args.chan false v.asleep)) c.self.view_is) c.tell_sent.ensures c.in_ok-wake_with-in-Some.ensures
    (ap (λ (v : ChannelsValue). v.channels) c.self.view_is)
    (c.leave.ensures ∙ ap (λ (v : ChannelsValue). without v.asleep c.in-Some.partner.number) c.self.view_is)

pub returns-in_ok-push-in-None-clause-sends : goal.returns-in_ok-push-in-None-clause-sends
returns-in_ok-push-in-None-clause-sends c =
    let k = c.args.chan in
    let item = c.args.item.now in
    let channels = with_items c.self.inside.channels c.push.new.channels in
    let same : c.as_mut_slice.result.now ≡ c.args.self.now.channels = c.as_mut_slice.ensures.value ∙ ap (λ (v : ChannelsValue). v.channels) c.self.view_is in
    send_buffered c.args.self.now c.args.number k item c.args.clause (record { channels = channels.items; asleep = c.self.inside.asleep }) c.tell_sent-in-None.new.outcome c.clear.new.self
    c.if-is_closed.ensures (c.in-None.ensures ∙ ap (λ (v : ChannelsValue). option_map partner_of (partner k false v.asleep)) c.self.view_is) c.tell_sent-in-None.ensures c.clear.ensures.items
    (written c.self.inside.channels c.push.new.channels c.as_mut_slice.result.now k _ c.as_mut_slice.ensures.value c.in_ok-push-in-None.ensures.ok ∙ c.in_ok-push-in-None.ensures.ok
    ∙ ap (λ (cs : List Channel). slice_set cs k (record (channel_of cs k) { items = (channel_of cs k).items ++ item ∷ [] })) same)
    (ap (λ (v : ChannelsValue). v.asleep) c.self.view_is)

pub invariant_of-self-in-None : goal.invariant_of-self-in-None
invariant_of-self-in-None c = few_still c.self.inside.channels c.push.new.channels _ c.self.invariant

pub invariant_of-self-in_err-push-in-None : goal.invariant_of-self-in_err-push-in-None
invariant_of-self-in_err-push-in-None c = few_still c.self.inside.channels c.push.new.channels _ c.self.invariant

pub returns-in_err-push-in-None-clause-memory : goal.returns-in_err-push-in-None-clause-memory
returns-in_err-push-in-None-clause-memory c =
    on_err_always c.from_residual-in_err-push-in-None.result _
    (ap (λ (cs : List Channel). record { channels = cs; asleep = c.self.inside.asleep }) (unwritten c.self.inside.channels c.push.new.channels (c.in_err-push-in-None.ensures.err ∙ c.as_mut_slice.ensures.value)) ∙ c.self.view_is)
