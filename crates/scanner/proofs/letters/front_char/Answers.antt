use Rattle.std.proofs.Common.{◌<◌, get_or, arith, sym}
use Rattle.scanner.proofs.Characters.{front_ascii}
use Rattle.scanner.proofs.letters.front_char.Goals as goal

pub returns-in-len1-up : goal.returns-in-len1-up
returns-in-len1-up c =
    let low : get_or c.args.text.now 0 0 < 128 = grind (arith, c.is_ascii.ensures, c.if-is_ascii.true) in
    rw c.from.ensures (sym (front_ascii c.args.text.now c.in-len1-up.len_at_least low))
