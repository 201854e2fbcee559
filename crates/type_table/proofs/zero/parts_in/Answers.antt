use Rattle.std.proofs.Common.{◌≡◌, ◌+◌, suc, length, ap, arith}
use Rattle.std.proofs.lemmas.List.{length-map}
use Rattle.type_table.specs.Views.{fields_of_entry, kind_of}
use Rattle.type_table.specs.Visible.{types_of, globals_in}
use Rattle.type_table.proofs.Tables.{room-for-parts}
use Rattle.type_table.proofs.zero.parts_in.Goals as goal

pub put_parts-requires : goal.put_parts-requires
put_parts-requires c =
    let table = c.args.table.now in
    let structs = (globals_in table).structs in
    let deep : c.len.result + 1 ≡ suc (length structs) = omega (arith, c.len.ensures, length-map table.structs.items (fields_of_entry (types_of table))) in
    room-for-parts structs table.widths.items table.sized table.narrow (kind_of (types_of table) c.args.kind) (c.len.result + 1) _ deep (ap length c.new-all.ensures)
