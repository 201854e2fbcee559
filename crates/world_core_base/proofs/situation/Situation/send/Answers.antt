use Rattle.std.proofs.Common.{[], ◌∷◌, List, Some, true, ℕ, refl, subst}
use Rattle.channel_core.specs.Channels.{Does}
use Rattle.channel_core.specs.Words.{DoesWith, IsSent}
use Rattle.channel_core.specs.declared.outcome.Outcome.TheVariants as outcomes
use Rattle.channel_core.specs.declared.word_outcome.SentWord.{SentWord}
use Rattle.word.specs.Values.{Nothing, Received, Reply, Request, Send}
use Rattle.world_core_base.proofs.Shapes.{done_core, slept_core}
use Rattle.world_core_base.proofs.Moving.{passed_asleep, passed_done}
use Rattle.world_core_base.proofs.situation.Situation.send.Goals as goal

pub returns-in-To-clause-served : goal.returns-in-To-clause-served
returns-in-To-clause-served c =
    let code = c.args.code.now in
    let core = c.args.self.now in
    let n = c.args.actor.number in
    let means : Request = Send (Some c.args.chan) (c.args.word ∷ []) in
    let channels = c.send_word.new.self.channels in
    let woken : List (ℕ × Reply) = (c.in-To.receiver, Received (c.args.word ∷ []) true) ∷ [] in
    let does : DoesWith core.channels n means Nothing woken channels = subst (λ (s : SentWord). IsSent core.channels n c.args.chan c.args.word s channels) c.in-To.is c.in_ok-receiver.ensures.sends in
    let is = done_core code n c.next_time-later.result Nothing woken core c.send_word.new.self c.go_on_with.new.self c.wake_one.new.self c.in_ok-receiver.ensures.rest c.go_on_with.ensures c.wake_one.ensures in
    passed_done code c.args.limit core n c.args.actor.clock means c.requires.asked tt c.requires.fits c.requires.events c.requires.going Nothing woken channels c.next_time-later.result c.wake_one.new.self does c.next_time-later.ensures is

pub returns-in-Kept-clause-served : goal.returns-in-Kept-clause-served
returns-in-Kept-clause-served c =
    let code = c.args.code.now in
    let core = c.args.self.now in
    let n = c.args.actor.number in
    let means : Request = Send (Some c.args.chan) (c.args.word ∷ []) in
    let channels = c.send_word.new.self.channels in
    let does : DoesWith core.channels n means Nothing [] channels = subst (λ (s : SentWord). IsSent core.channels n c.args.chan c.args.word s channels) c.in-Kept.is c.in_ok-receiver.ensures.sends in
    let is = done_core code n c.next_time-later.result Nothing [] core c.send_word.new.self c.go_on_with-in-Kept.new.self c.go_on_with-in-Kept.new.self c.in_ok-receiver.ensures.rest c.go_on_with-in-Kept.ensures refl in
    passed_done code c.args.limit core n c.args.actor.clock means c.requires.asked tt c.requires.fits c.requires.events c.requires.going Nothing [] channels c.next_time-later.result c.go_on_with-in-Kept.new.self does c.next_time-later.ensures is

pub returns-in-Sleeps-clause-served : goal.returns-in-Sleeps-clause-served
returns-in-Sleeps-clause-served c =
    let core = c.args.self.now in
    let n = c.args.actor.number in
    let means : Request = Send (Some c.args.chan) (c.args.word ∷ []) in
    let channels = c.send_word.new.self.channels in
    let does : Does core.channels n means outcomes.Sleeps channels = subst (λ (s : SentWord). IsSent core.channels n c.args.chan c.args.word s channels) c.in-Sleeps.is c.in_ok-receiver.ensures.sends in
    passed_asleep c.args.code.now c.args.limit core n c.args.actor.clock means c.requires.asked tt c.requires.fits c.requires.events c.requires.going channels c.fall_asleep.new.self does
    (slept_core n core c.send_word.new.self c.fall_asleep.new.self c.in_ok-receiver.ensures.rest c.fall_asleep.ensures)
