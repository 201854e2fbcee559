use Rattle.std.proofs.Common.{◌≡◌, Some, slice_get, sym}
use Rattle.checker_declaration.specs.Parts.{structs_in}
use Rattle.checker_declaration.proofs.KnownWidths.{deeper, known_deeper, known_set}
use Rattle.checker_declaration.proofs.wide.note_words.Goals as goal

pub returns-then-number-len : goal.returns-then-number-len
returns-then-number-len c =
    let at = c.parts_at.ensures in
    let is = c.in-Some.is in
    let there : slice_get c.args.all.now c.args.number ≡ Some c.in-Some.parts.now = rw is at (sym at) in
    λ types depth known.
    known_set (structs_in types c.args.all.now) depth c.args.number c.args.known.now.items c.fields_words-words.result known
    (λ w e. deeper types c.args.all.now depth c.args.number c.in-Some.parts.now w there ((rw (e, c.as_slice.ensures.value, c.as_slice-in-Some.ensures.value) at c.fields_words-words.ensures) types (structs_in types c.args.all.now) depth known))

pub returns-else-number-len : goal.returns-else-number-len
returns-else-number-len c = λ types depth known. known_deeper (structs_in types c.args.all.now) depth c.args.known.now.items known

pub returns-in_default : goal.returns-in_default
returns-in_default c = λ types depth known. known_deeper (structs_in types c.args.all.now) depth c.args.known.now.items known
