use Rattle.std.proofs.Common.{◌≡◌, drop}
use Rattle.pauses.specs.Tests.{are_numbers}
use Rattle.pauses.proofs.validity.are_numbers.Given as goal

abbrev pub invariant-loop-number : goal.invariant-loop-number
invariant-loop-number l = are_numbers l.numbers ≡ are_numbers (drop l.number-index l.numbers)
