use Rattle.std.proofs.Common.{◌≡◌, Some, None, slice_get, get_or, refl, sym}
use Rattle.type_table.specs.Containment.{fields_of}
use Rattle.type_table.specs.Views.{Fits}
use Rattle.type_table.specs.Visible.{types_of, globals_in}
use Rattle.type_table.proofs.Widths.{fields-there}
use Rattle.type_table.proofs.Tables.{narrow_at}
use Rattle.type_table.proofs.Fields.{all_fit, no_fields}
use Rattle.type_table.proofs.layout.field_of.Goals as goal

pub field_among-requires : goal.field_among-requires
field_among-requires c =
    let table = c.args.table.now in
    let structs = (globals_in table).structs in
    let at = c.entry_at.ensures in
    let is = c.in-Some.is in
    let found : slice_get table.structs.items c.in-Struct.number ≡ Some c.in-Some.entry.now = rw is at (sym at) in
    let these = fields-there (types_of table) table.structs.items c.in-Struct.number c.in-Some.entry.now found in
    let items = c.as_slice.ensures.value in
    let all : Fits structs (fields_of structs c.in-Struct.number) 0 =
    all_fit structs c.in-Struct.number (get_or table.widths.items c.in-Struct.number 0) (table.sized c.in-Struct.number) (narrow_at table.widths.items table.narrow c.in-Struct.number) in
    rw items (rw these at all)

pub returns-in-Some-clause-field : goal.returns-in-Some-clause-field
returns-in-Some-clause-field c =
    let table = c.args.table.now in
    let at = c.entry_at.ensures in
    let is = c.in-Some.is in
    let found : slice_get table.structs.items c.in-Struct.number ≡ Some c.in-Some.entry.now = rw is at (sym at) in
    let these = fields-there (types_of table) table.structs.items c.in-Struct.number c.in-Some.entry.now found in
    let items = c.as_slice.ensures.value in
    let result = rw items at c.field_among.ensures.field in
    rw (c.in-Struct.is, these) result

pub returns-in-None-clause-field : goal.returns-in-None-clause-field
returns-in-None-clause-field c =
    let table = c.args.table.now in
    let at = c.entry_at.ensures in
    let is = c.in-None.is in
    let found : slice_get table.structs.items c.in-Struct.number ≡ None = rw is at (sym at) in
    rw (c.in-Struct.is, no_fields (types_of table) table.structs.items c.in-Struct.number found) refl
