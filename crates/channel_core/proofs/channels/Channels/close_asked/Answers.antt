use Rattle.std.proofs.Common.{ap, refl, subst, sym, ◌∙◌, ◌≡◌, ℕ, List, Option}
use Rattle.std.specs.Prelude.{slice_set, true}
use Rattle.std.specs.Vec.{with_items}
use Rattle.word.specs.Requests.{channel_of, partners, without_all}
use Rattle.word.specs.Values.{Channel, Close, Item}
use Rattle.word.specs.declared.request.EventOutcome.TheVariants as fates
use Rattle.word.specs.declared.request.Reply.TheVariants as replies
use Rattle.channel_core.specs.Channels.{ChannelsValue, Does, came, closed_for}
use Rattle.channel_core.proofs.Deeds.{close_done, few_still, written}
use Rattle.channel_core.proofs.channels.Channels.close_asked.Goals as goal

pub invariant_of-self-2 : goal.invariant_of-self-2
invariant_of-self-2 c = few_still c.self.inside.channels c.close_channel.new.channels _ c.self.invariant

pub returns-clause-does : goal.returns-clause-does
returns-clause-does c = λ n.
    let k = c.in-Some.chan in
    let old : ChannelsValue = c.args.self.now in
    let channels = with_items c.self.inside.channels c.close_channel.new.channels in
    let new : ChannelsValue = record { channels = channels.items; asleep = c.close.new.self } in
    let woken = c.in_ok-woken.field-0 in
    let same : c.as_mut_slice.result.now ≡ old.channels = c.as_mut_slice.ensures.value ∙ ap (λ (v : ChannelsValue). v.channels) c.self.view_is in
    subst (λ (chan : Option ℕ). Does old n (Close chan) (came (fates.Done replies.Nothing) woken) new) (sym c.in-Some.is)
    (close_done old new k n (fates.Done replies.Nothing) woken c.if-is_closed.ensures refl
    (c.in_ok-woken.ensures.woken ∙ ap (λ (v : ChannelsValue). closed_for c.zero-zero.result (partners k v.asleep)) c.self.view_is ∙ ap (λ (z : Item). closed_for z (partners k old.asleep)) c.zero-zero.ensures)
    (written c.self.inside.channels c.close_channel.new.channels c.as_mut_slice.result.now k _ c.as_mut_slice.ensures.value c.close_channel.ensures ∙ c.close_channel.ensures
    ∙ ap (λ (cs : List Channel). slice_set cs k (record (channel_of cs k) { closed = true })) same)
    (c.in_ok-woken.ensures.left ∙ ap (λ (v : ChannelsValue). without_all v.asleep woken.items) c.self.view_is))
