use Rattle.std.proofs.Common.{◌∙◌, ℕ, Option, sym, subst}
use Rattle.word.specs.Values.{Item, Send}
use Rattle.channel_core.specs.Channels.{ChannelsValue, Does}
use Rattle.channel_core.specs.declared.outcome.Outcome.TheVariants as outcomes
use Rattle.channel_core.proofs.Deeds.{falls_asleep, send_nil, send_sleeps, with_sleeper}
use Rattle.channel_core.proofs.channels.Channels.send_asked.Goals as goal

abbrev Sleeping : ChannelsValue → ℕ → Item → Option ℕ → Type 0
Sleeping old n item k = Does old n (Send k item) outcomes.Sleeps (with_sleeper old n (Send k item))

pub returns-in_default-clause-does : goal.returns-in_default-clause-does
returns-in_default-clause-does c =
    falls_asleep c.args.self.now c.sleep.new.self c.args.number _ (Send c.args.chan c.args.item.now) c.sleep.new.outcome c.args.woken.now c.sleep.result c.sleep.ensures.sleeps c.sleep.ensures.asleep c.requires
    (subst (Sleeping c.args.self.now c.args.number c.args.item.now) (sym c.in_default.is) (send_nil c.args.self.now c.args.number c.args.item.now))

pub returns-then-not-can_send-clause-does : goal.returns-then-not-can_send-clause-does
returns-then-not-can_send-clause-does c =
    falls_asleep c.args.self.now c.sleep-then-not-can_send.new.self c.args.number _ (Send c.args.chan c.args.item.now) c.sleep-then-not-can_send.new.outcome c.args.woken.now c.sleep-then-not-can_send.result c.sleep-then-not-can_send.ensures.sleeps c.sleep-then-not-can_send.ensures.asleep c.requires
    (subst (Sleeping c.args.self.now c.args.number c.args.item.now) (sym c.in-Some.is)
    (send_sleeps c.args.self.now c.args.number c.in-Some.chan c.args.item.now (λ o m k q. sym c.if-not-can_send.true ∙ c.can_send.ensures o m k q)))
