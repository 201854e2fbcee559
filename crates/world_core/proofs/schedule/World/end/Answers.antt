use Rattle.std.proofs.Common.{◌≡◌, Some, None, sym, ◌∙◌, subst}
use Rattle.word.specs.declared.end.End.TheVariants.{Deadlock}
use Rattle.world_core.specs.Schedules.{WorldValue, end_in}
use Rattle.world_core_base.specs.Slots.{IsAwake, IsNobodyAwake}
use Rattle.world_core.proofs.Scheduling.{end_awake, end_nobody, none_of}
use Rattle.world_core.proofs.schedule.World.end.Goals as goal

pub returns-in-Some-first_awake : goal.returns-in-Some-first_awake
returns-in-Some-first_awake c =
    let core = c.self.inside.core in
    let n = c.in-Some-first_awake.field-0 in
    let awake : IsAwake core.rows n = c.in-Some-first_awake.ensures in
    subst (λ (x : WorldValue). None ≡ end_in x.core) c.self.view_is (sym (end_awake core n (sym c.ending.ensures ∙ none_of c.ending.result c.in_default.not-Some) awake))

pub returns-in-None : goal.returns-in-None
returns-in-None c =
    let core = c.self.inside.core in
    let nobody : IsNobodyAwake core.rows = c.in-None.ensures in
    subst (λ (x : WorldValue). Some Deadlock ≡ end_in x.core) c.self.view_is (sym (end_nobody core (sym c.ending.ensures ∙ none_of c.ending.result c.in_default.not-Some) nobody))
