use Rattle.std.proofs.Common.{◌∙◌, rules}
use Rattle.std.proofs.lemmas.Fn.{filter_same}
use Rattle.reference_world.proofs.Lists.{others_stay}
use Rattle.reference_world.proofs.sleeper.leave.Goals as goal

pub returns : goal.returns
returns c = filter_same _ _ _ (λ x b f h. search rules) _ _ c.retain.ensures.filtered ∙ others_stay c.args.asleep.now.items c.args.number
