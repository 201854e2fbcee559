use Rattle.std.proofs.Common.{◌≡◌, drop}
use Rattle.word.specs.Requests.{without_all}
use Rattle.reference_world.proofs.sleeper.leave_all.Given as goal

abbrev pub invariant-loop-one : goal.invariant-loop-one
invariant-loop-one l = without_all l.asleep.items (drop l.one-index l.woken) ≡ without_all l.initial.asleep.items l.woken
