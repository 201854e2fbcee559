use Rattle.std.proofs.Common.{◌≡◌, drop}
use Rattle.pauses.specs.Paused.{is_known}
use Rattle.pauses.specs.Plans.{pauses_of}
use Rattle.pauses.proofs.plan.Plan.knows.Given as goal

abbrev pub invariant-loop-pause : goal.invariant-loop-pause
invariant-loop-pause l = is_known (pauses_of l.self.pauses.items) l.way ≡ is_known (pauses_of (drop l.pause-index l.self.pauses.items)) l.way
