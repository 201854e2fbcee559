use Rattle.std.proofs.Common.{take}
use Rattle.world_core.proofs.Scheduling.{Went}
use Rattle.world_core.proofs.schedule.run_schedule.Given as goal

abbrev pub invariant-loop-next : goal.invariant-loop-next
invariant-loop-next l = Went l.code l.limit (take l.next-index l.steps) l.world
