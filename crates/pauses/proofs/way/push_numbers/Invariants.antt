use Rattle.std.proofs.Common.{◌≡◌, ◌++◌, drop, map}
use Rattle.pauses.specs.Paused.{number_word}
use Rattle.pauses.proofs.way.push_numbers.Given as goal

abbrev pub invariant-loop-number : goal.invariant-loop-number
invariant-loop-number l = l.words.items ++ map number_word (drop l.number-index l.numbers) ≡ l.initial.words.items ++ map number_word l.numbers
