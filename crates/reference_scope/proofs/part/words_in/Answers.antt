use Rattle.std.proofs.Common.{sym, ◌∙◌}
use Rattle.type_table.specs.Views.{kind_of}
use Rattle.type_table.specs.Visible.{types_of, globals_in}
use Rattle.reference_scope.proofs.Parts.{words_counted}
use Rattle.reference_scope.proofs.part.words_in.Goals as goal

pub returns : goal.returns
returns c =
    let table = c.args.table.now in
    c.words_of.ensures.words ∙ sym (words_counted (globals_in table).structs table.widths.items table.sized (kind_of (types_of table) c.args.kind))
