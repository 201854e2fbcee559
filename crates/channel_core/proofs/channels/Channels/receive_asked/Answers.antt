use Rattle.std.proofs.Common.{◌∙◌, ℕ, Option, sym, subst}
use Rattle.word.specs.Values.{Receive}
use Rattle.channel_core.specs.Channels.{ChannelsValue, Does}
use Rattle.channel_core.specs.declared.outcome.Outcome.TheVariants as outcomes
use Rattle.channel_core.proofs.Deeds.{falls_asleep, receive_nil, receive_sleeps, with_sleeper}
use Rattle.channel_core.proofs.channels.Channels.receive_asked.Goals as goal

abbrev Sleeping : ChannelsValue → ℕ → Option ℕ → Type 0
Sleeping old n k = Does old n (Receive k) outcomes.Sleeps (with_sleeper old n (Receive k))

pub returns-in_default-clause-does : goal.returns-in_default-clause-does
returns-in_default-clause-does c =
    falls_asleep c.args.self.now c.sleep.new.self c.args.number _ (Receive c.args.chan) c.sleep.new.outcome c.args.woken.now c.sleep.result c.sleep.ensures.sleeps c.sleep.ensures.asleep c.requires
    (subst (Sleeping c.args.self.now c.args.number) (sym c.in_default.is) (receive_nil c.args.self.now c.args.number))

pub returns-then-not-can_receive-clause-does : goal.returns-then-not-can_receive-clause-does
returns-then-not-can_receive-clause-does c =
    falls_asleep c.args.self.now c.sleep-then-not-can_receive.new.self c.args.number _ (Receive c.args.chan) c.sleep-then-not-can_receive.new.outcome c.args.woken.now c.sleep-then-not-can_receive.result c.sleep-then-not-can_receive.ensures.sleeps c.sleep-then-not-can_receive.ensures.asleep c.requires
    (subst (Sleeping c.args.self.now c.args.number) (sym c.in-Some.is)
    (receive_sleeps c.args.self.now c.args.number c.in-Some.chan (λ o m k q. sym c.if-not-can_receive.true ∙ c.can_receive.ensures o m k q)))
