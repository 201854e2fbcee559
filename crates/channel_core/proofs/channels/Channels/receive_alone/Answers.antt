use Rattle.std.proofs.Common.{ap, ◌∙◌, ◌≡◌, List, subst, sym}
use Rattle.std.specs.Prelude.{[], drop, length, nat_lt, slice_index_or, slice_set, true}
use Rattle.std.specs.Vec.{with_items}
use Rattle.word.specs.Requests.{channel_of, got}
use Rattle.word.specs.Values.{Channel, Done}
use Rattle.word.specs.Views.{outcome_of}
use Rattle.channel_core.specs.Channels.{ChannelsValue}
use Rattle.channel_core.proofs.Deeds.{few_still, popped, written}
use Rattle.channel_core.proofs.channels.Channels.receive_alone.Goals as goal

pub invariant_of-self : goal.invariant_of-self
invariant_of-self c = few_still c.self.inside.channels c.pop.new.channels _ c.self.invariant

pub returns : goal.returns
returns c =
    let k = c.args.chan in
    let channels = with_items c.self.inside.channels c.pop.new.channels in
    let same : c.as_mut_slice.result.now ≡ c.args.self.now.channels = c.as_mut_slice.ensures.value ∙ ap (λ (v : ChannelsValue). v.channels) c.self.view_is in
    let some : nat_lt 0 (length (channel_of c.args.self.now.channels k).items) ≡ true = sym c.if-not-has_items.ensures in
    popped c.args.self.now (record { channels = channels.items; asleep = c.self.inside.asleep }) k c.args.clause c.pop.new.outcome some
    (subst (λ (cs : List Channel). nat_lt 0 (length (channel_of cs k).items) ≡ true → outcome_of c.pop.new.outcome ≡ Done (got c.args.clause (slice_index_or (channel_of cs k).items 0 []) true)) same c.pop.ensures.told some)
    (written c.self.inside.channels c.pop.new.channels c.as_mut_slice.result.now k _ c.as_mut_slice.ensures.value c.pop.ensures.rest ∙ c.pop.ensures.rest
    ∙ ap (λ (cs : List Channel). slice_set cs k (record (channel_of cs k) { items = drop 1 (channel_of cs k).items })) same)
    (ap (λ (v : ChannelsValue). v.asleep) c.self.view_is)
