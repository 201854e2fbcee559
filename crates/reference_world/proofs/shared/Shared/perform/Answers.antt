use Rattle.std.proofs.Common.{◌+◌, ◌∙◌, refl, ap, rules}
use Rattle.word.specs.Views.{request_of}
use Rattle.reference_world.specs.Deeds.{SharedValue}
use Rattle.reference_world.proofs.Performing.{performed}
use Rattle.reference_world.proofs.shared.Shared.perform.Goals as goal

pub returns-clause-performs : goal.returns-clause-performs
returns-clause-performs c =
    performed c.args.self.now _ c.act.new.self _ c.args.actor.number c.args.actor.clock (request_of c.args.request) _ c.in_ok-deed.deed c.requires (rw (← c.self.view_is) (search rules))
    (ap (λ (v : SharedValue). record v { events = v.events + 1 }) c.self.view_is) c.asked.ensures
    (c.in_ok-deed.ensures.acts) c.in_ok-deed.ensures.events c.in_ok-deed.ensures.ending
    (rw (← c.self-2.view_is, c.ending_of-self-inside.ensures) refl)

pub returns-clause-counted : goal.returns-clause-counted
returns-clause-counted c = ap (λ (v : SharedValue). v.events) c.self-2.view_is ∙ c.in_ok-deed.ensures.events ∙ ap (λ (v : SharedValue). v.events + 1) c.self.view_is

pub returns-clause-room : goal.returns-clause-room
returns-clause-room c = λ goes. c.self-2.invariant.room (ap (λ (v : SharedValue). v.ending) c.self-2.view_is ∙ c.in_ok-deed.ensures.ending ∙ ap (λ (v : SharedValue). v.ending) c.self.view_is ∙ c.requires)
