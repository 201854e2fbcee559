use Rattle.std.proofs.Common.{◌∙◌}
use Rattle.one_thread.proofs.Keyed.{none_least, some_least}
use Rattle.one_thread.proofs.places.Places.least.Goals as goal

pub returns-in_err-key : goal.returns-in_err-key
returns-in_err-key g c =
    rw (← c.self.view_is) (c.from_residual.ensures ∙ none_least c.self.inside.all.items c.self.inside.keys c.self.invariant c.in_err-key.ensures.none)

pub returns : goal.returns
returns g c =
    let least = c.in_ok-key.ensures.least in
    rw (← c.self.view_is) (some_least c.self.inside.all.items c.self.inside.keys c.self.invariant (c.in_ok-key.field-0-0, c.in_ok-key.key) least.0 least.1)
