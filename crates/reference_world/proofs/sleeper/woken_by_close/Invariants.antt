use Rattle.std.proofs.Common.{◌≡◌, ◌++◌, drop}
use Rattle.word.specs.Requests.{partners}
use Rattle.reference_world.specs.Deeds.{closed_for}
use Rattle.reference_world.proofs.sleeper.woken_by_close.Given as goal

abbrev pub invariant-loop-sleeper : goal.invariant-loop-sleeper
invariant-loop-sleeper l = l.woken.items ++ closed_for l.zero (partners l.chan (drop l.sleeper-index l.asleep)) ≡ closed_for l.zero (partners l.chan l.asleep)
