use Rattle.std.proofs.Common.{◌<◌, arith, refl, sym, ◌∙◌}
use Rattle.std.proofs.lemmas.Bool.{ne_eqb}
use Rattle.scanner.proofs.Ascii.{is_letter_ascii}
use Rattle.scanner.proofs.letters.is_letter.Goals as goal

pub returns-else-c-eq95 : goal.returns-else-c-eq95
returns-else-c-eq95 c =
    let low : c.args.c < 128 = grind (arith, c.is_ascii.ensures, c.if-is_ascii.true) in
    c.is_ascii_alphabetic.ensures.value ∙ sym (is_letter_ascii c.args.c low ∙ rw (ne_eqb c.args.c 95 c.if-c-eq95.false) refl)
