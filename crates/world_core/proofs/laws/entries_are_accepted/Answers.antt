use Rattle.world_core.proofs.Entries.{all_accepted}
use Rattle.world_core.proofs.laws.entries_are_accepted.Goals as goal

pub returns : goal.returns
returns c = λ n events. all_accepted n events
