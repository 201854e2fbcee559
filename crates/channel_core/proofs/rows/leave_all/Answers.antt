use Rattle.std.proofs.Common.{ap, ◌∙◌}
use Rattle.std.specs.Prelude.{map}
use Rattle.channel_core.specs.Asleep.{placed_of}
use Rattle.channel_core.proofs.Keys.{filter-placed_of}
use Rattle.channel_core.proofs.rows.leave_all.Goals as goal

pub returns : goal.returns
returns c = ap (map placed_of) c.leave_counted.ensures ∙ filter-placed_of c.args.key c.args.queues.now.waiting
