use Rattle.std.proofs.Common.{◌≡◌, ◌+◌, ◌^◌, min, take}
use Rattle.parser_base.specs.Lexemes.{number_after}
use Rattle.parser_base.proofs.literal.number_after.Given as goal

abbrev pub invariant-loop-digit : goal.invariant-loop-digit
invariant-loop-digit l = l.value ≡ min (number_after l.base 0 (take l.digit-index l.digits)) (2 ^ 100 + 1)
