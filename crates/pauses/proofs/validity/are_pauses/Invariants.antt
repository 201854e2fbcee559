use Rattle.std.proofs.Common.{◌≡◌, [], drop, take}
use Rattle.pauses.specs.Plans.{pauses_of}
use Rattle.pauses.specs.Tests.{are_pauses}
use Rattle.pauses.proofs.validity.are_pauses.Given as goal

abbrev pub invariant-loop-index : goal.invariant-loop-index
invariant-loop-index l = are_pauses [] (pauses_of l.pauses) ≡ are_pauses (pauses_of (take l.index l.pauses)) (pauses_of (drop l.index l.pauses))
