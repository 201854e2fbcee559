use Rattle.std.proofs.Common.{ap, refl, ◌∙◌, ◌≡◌, [], List}
use Rattle.std.specs.Prelude.{option_copied, option_map, slice_set, true, unwrap_or}
use Rattle.word.specs.Requests.{channel_of, got, partner, without}
use Rattle.word.specs.Values.{Channel, Done, Item, Reply}
use Rattle.channel_core.specs.Channels.{ChannelsValue, after_passing, came, front_after, met, partner_of}
use Rattle.channel_core.proofs.Deeds.{done_is, front_is, receive_met, served, told}
use Rattle.channel_core.proofs.channels.Channels.receive_now.Goals as goal

pub returns-clause-receives : goal.returns-clause-receives
returns-clause-receives c =
    let k = c.args.chan in
    let item : Item = unwrap_or (option_copied c.in-Some.partner.item) [] in
    let same : c.self.inside.channels.items ≡ c.args.self.now.channels = ap (λ (v : ChannelsValue). v.channels) c.self.view_is in
    let new : ChannelsValue = record { channels = c.pass_through.new.channels.items; asleep = c.leave.new.self } in
    let front : Item = front_after c.args.self.now.channels k item in
    let told_it : Reply = got c.args.clause front true in
    receive_met c.args.self.now new k c.args.clause (met c.in-Some.partner) (came c.pass_through.new.outcome c.wake.new.woken) (c.in-Some.ensures ∙ ap (λ (v : ChannelsValue). option_map partner_of (partner k true v.asleep)) c.self.view_is)
    (λ o n c' q x e.
    served c.args.self.now k c.args.clause front (met c.in-Some.partner) told_it c.wake.new.woken.items c.pass_through.new.channels.items c.leave.new.self refl
    (c.in_ok-wake.ensures ∙ ap (told c.in-Some.partner.number) c.sent.ensures)
    (front_is (channel_of c.args.self.now.channels k).items item)
    (c.in_ok-pass_through.ensures.rest ∙ ap (λ (cs : List Channel). slice_set cs k (record (channel_of cs k) { items = after_passing cs k item })) same)
    (c.leave.ensures ∙ ap (λ (v : ChannelsValue). without v.asleep c.in-Some.partner.number) c.self.view_is)
    o n c' q x e
    ∙ done_is o n c' q c.pass_through.new.outcome c.wake.new.woken told_it new (c.in_ok-pass_through.ensures.told ∙ ap (λ (cs : List Channel). Done (got c.args.clause (front_after cs k item) true)) same))
