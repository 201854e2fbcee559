use Rattle.std.proofs.Common.{◌≡◌, ◌++◌, drop}
use Rattle.pauses.specs.Files.{more_text}
use Rattle.pauses.proofs.writing.push_more.Given as goal

abbrev pub invariant-loop-number : goal.invariant-loop-number
invariant-loop-number l = l.text.items ++ more_text (drop l.number-index l.numbers) ≡ l.initial.text.items ++ more_text l.numbers
