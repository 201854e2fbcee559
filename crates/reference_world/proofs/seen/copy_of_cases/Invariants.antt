use Rattle.std.proofs.Common.{◌≡◌, take}
use Rattle.reference_world.proofs.seen.copy_of_cases.Given as goal

abbrev pub invariant-loop-case : goal.invariant-loop-case
invariant-loop-case l = l.copy.items ≡ take l.case-index l.cases
