use Rattle.std.proofs.Common.{sym, ap, ◌∙◌}
use Rattle.std.specs.Prelude.{slice_get}
use Rattle.std.specs.Str.{chars}
use Rattle.scanner.proofs.Characters.{first_of_utf8, first_of_other}
use Rattle.scanner.proofs.letters.first_of.Goals as goal

pub returns-in-Err : goal.returns-in-Err
returns-in-Err c = sym (first_of_other c.args.bytes.now c.in-Err.ensures.cases.0)

pub returns-in-Ok : goal.returns-in-Ok
returns-in-Ok c =
    let same = c.chars.ensures.rest ∙ c.in-Ok.ensures.cases.0 in
    c.next.ensures.steps.2 ∙ ap (λ bs. slice_get (chars bs) 0) same ∙ sym (first_of_utf8 c.args.bytes.now c.in-Ok.ensures.cases.1)
