use Rattle.std.proofs.Common.{arith}
use Rattle.checker_declaration.proofs.KnownWidths.{too_wide}
use Rattle.checker_declaration.proofs.wide.first_too_wide.Goals as goal

pub returns-then-words-gt-MOST_WORDS : goal.returns-then-words-gt-MOST_WORDS
returns-then-words-gt-MOST_WORDS c = λ types.
    too_wide types c.args.all.now c.in_ok-known.known.items c.loop-number.number c.in-Some.words (c.in_ok-known.ensures types) (rw c.as_slice.ensures.value at c.in-Some.ensures) (omega (arith, c.if-words-gt-MOST_WORDS.true))
