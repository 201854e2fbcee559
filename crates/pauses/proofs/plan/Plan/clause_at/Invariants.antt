use Rattle.std.proofs.Common.{◌≡◌, drop}
use Rattle.pauses.specs.Paused.{clause_at}
use Rattle.pauses.specs.Plans.{pauses_of}
use Rattle.pauses.proofs.plan.Plan.clause_at.Given as goal

abbrev pub invariant-loop-pause : goal.invariant-loop-pause
invariant-loop-pause l = clause_at (pauses_of l.self.pauses.items) l.way l.request ≡ clause_at (pauses_of (drop l.pause-index l.self.pauses.items)) l.way l.request
