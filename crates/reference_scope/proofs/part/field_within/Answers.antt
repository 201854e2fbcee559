use Rattle.type_table.specs.Containment.{variable_words}
use Rattle.std.proofs.Common.{Some}
use Rattle.type_table.specs.Views.{kind_of}
use Rattle.type_table.specs.Visible.{types_of, globals_in}
use Rattle.reference_scope.proofs.Parts.{field_lies, found_lies}
use Rattle.reference_scope.proofs.part.field_within.Goals as goal

pub returns-clause-within : goal.returns-clause-within
returns-clause-within c =
    let table = c.args.table.now in
    let structs = (globals_in table).structs in
    let kind = kind_of (types_of table) c.args.kind in
    let lies = field_lies structs table.widths.items table.sized kind c.args.name.now in
    found_lies (types_of table) structs c.field_of.result (variable_words structs (Some kind)) (rw (← c.field_of.ensures.field) at lies)
