use Rattle.std.proofs.Common.{◌≡◌, ◌≤◌, drop, true, sym, ◌∙◌, arith}
use Rattle.std.proofs.lemmas.List.{length-drop}
use Rattle.scanner.specs.Letters.{begins_letter_or_digit}
use Rattle.scanner.proofs.Reading.{rest_is}
use Rattle.scanner.proofs.Characters.{none_are, some_bytes, one_char_more}
use Rattle.scanner.proofs.longest.name_run.Goals as goal

pub loop-at-init : goal.loop-at-init
loop-at-init c = record { within = omega arith; all = none_are c.args.text.now }

pub loop-at-smaller : goal.loop-at-smaller
loop-at-smaller c =
    let rest = rest_is c.loop-at.at c.args.text.now in
    let begins : begins_letter_or_digit (drop c.loop-at.at c.args.text.now) ≡ true = rw rest at (sym c.begins_letter_or_digit.ensures ∙ c.loop-at-test.true) in
    let some = rw rest at c.front_len-at.ensures.some in
    let len : 1 ≤ c.front_len-at.result = some (some_bytes (drop c.loop-at.at c.args.text.now) begins) in
    let le = rw rest at c.front_len-at.ensures.within in
    omega (arith, len, le, length-drop c.loop-at.at c.args.text.now)

pub loop-at-preserved : goal.loop-at-preserved
loop-at-preserved c =
    let rest = rest_is c.loop-at.at c.args.text.now in
    let begins : begins_letter_or_digit (drop c.loop-at.at c.args.text.now) ≡ true = rw rest at (sym c.begins_letter_or_digit.ensures ∙ c.loop-at-test.true) in
    let len = rw rest at c.front_len-at.ensures.len in
    let le = rw rest at c.front_len-at.ensures.within in
    record {
      within = omega (arith, le, length-drop c.loop-at.at c.args.text.now);
      all = rw len (one_char_more c.loop-at.at c.args.text.now c.loop-at.invariant.all begins);
    }
