use Rattle.std.proofs.Common.{◌≡◌, drop}
use Rattle.pauses.specs.Paused.{wait_at}
use Rattle.pauses.specs.Plans.{pauses_of}
use Rattle.pauses.proofs.plan.Plan.wait_at.Given as goal

abbrev pub invariant-loop-pause : goal.invariant-loop-pause
invariant-loop-pause l = wait_at (pauses_of l.self.pauses.items) l.way l.request ≡ wait_at (pauses_of (drop l.pause-index l.self.pauses.items)) l.way l.request
