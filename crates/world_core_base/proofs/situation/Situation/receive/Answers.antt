use Rattle.std.proofs.Common.{[], ◌∷◌, List, Some, true, ℕ, refl, subst}
use Rattle.channel_core.specs.Channels.{Does}
use Rattle.channel_core.specs.Words.{DoesWith, IsReceived}
use Rattle.channel_core.specs.declared.outcome.Outcome.TheVariants as outcomes
use Rattle.channel_core.specs.declared.word_outcome.ReceivedWord.{ReceivedWord}
use Rattle.word.specs.Values.{Nothing, Receive, Received, Reply, Request}
use Rattle.world_core_base.proofs.Shapes.{done_core, slept_core}
use Rattle.world_core_base.proofs.Moving.{passed_asleep, passed_done}
use Rattle.world_core_base.proofs.situation.Situation.receive.Goals as goal

pub returns-in-From-clause-served : goal.returns-in-From-clause-served
returns-in-From-clause-served c =
    let code = c.args.code.now in
    let core = c.args.self.now in
    let n = c.args.actor.number in
    let means : Request = Receive (Some c.args.chan) in
    let channels = c.receive_word.new.self.channels in
    let woken : List (ℕ × Reply) = (c.in-From.sender, Nothing) ∷ [] in
    let reply : Reply = Received (c.in-From.word ∷ []) true in
    let does : DoesWith core.channels n means reply woken channels = subst (λ (s : ReceivedWord). IsReceived core.channels n c.args.chan s channels) c.in-From.is c.in_ok-word.ensures.receives in
    let is = done_core code n c.next_time-later.result reply woken core c.receive_word.new.self c.go_on_with.new.self c.wake_one.new.self c.in_ok-word.ensures.rest c.go_on_with.ensures c.wake_one.ensures in
    passed_done code c.args.limit core n c.args.actor.clock means c.requires.asked tt c.requires.fits c.requires.events c.requires.going reply woken channels c.next_time-later.result c.wake_one.new.self does c.next_time-later.ensures is

pub returns-in-Kept-clause-served : goal.returns-in-Kept-clause-served
returns-in-Kept-clause-served c =
    let code = c.args.code.now in
    let core = c.args.self.now in
    let n = c.args.actor.number in
    let means : Request = Receive (Some c.args.chan) in
    let channels = c.receive_word.new.self.channels in
    let reply : Reply = Received (c.in-Kept.word ∷ []) true in
    let does : DoesWith core.channels n means reply [] channels = subst (λ (s : ReceivedWord). IsReceived core.channels n c.args.chan s channels) c.in-Kept.is c.in_ok-word.ensures.receives in
    let is = done_core code n c.next_time-later.result reply [] core c.receive_word.new.self c.go_on_with-in-Kept.new.self c.go_on_with-in-Kept.new.self c.in_ok-word.ensures.rest c.go_on_with-in-Kept.ensures refl in
    passed_done code c.args.limit core n c.args.actor.clock means c.requires.asked tt c.requires.fits c.requires.events c.requires.going reply [] channels c.next_time-later.result c.go_on_with-in-Kept.new.self does c.next_time-later.ensures is

pub returns-in-Sleeps-clause-served : goal.returns-in-Sleeps-clause-served
returns-in-Sleeps-clause-served c =
    let core = c.args.self.now in
    let n = c.args.actor.number in
    let means : Request = Receive (Some c.args.chan) in
    let channels = c.receive_word.new.self.channels in
    let does : Does core.channels n means outcomes.Sleeps channels = subst (λ (s : ReceivedWord). IsReceived core.channels n c.args.chan s channels) c.in-Sleeps.is c.in_ok-word.ensures.receives in
    passed_asleep c.args.code.now c.args.limit core n c.args.actor.clock means c.requires.asked tt c.requires.fits c.requires.events c.requires.going channels c.fall_asleep.new.self does
    (slept_core n core c.receive_word.new.self c.fall_asleep.new.self c.in_ok-word.ensures.rest c.fall_asleep.ensures)
