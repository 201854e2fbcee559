use Rattle.std.proofs.Common.{◌≡◌, suc, ◌∷◌, Some, None, length, map, drop, drop-cons, slice_get, sym, arith}
use Rattle.std.proofs.lemmas.List.{append-nil}
use Rattle.type_table.specs.Containment.{parts_within}
use Rattle.type_table.specs.Views.{field_in, kind_of}
use Rattle.type_table.specs.Visible.{types_of, globals_in}
use Rattle.type_table.proofs.Fields.{no_fields, parts-there, parts-none, room-first, room-left}
use Rattle.type_table.proofs.Widths.{fields-there}
use Rattle.type_table.proofs.zero.+put_parts.Goals as goal

pub put_parts-returns-in-Some : goal.put_parts-returns-in-Some
put_parts-returns-in-Some t c =
    let table = c.args.table.now in
    let structs = (globals_in table).structs in
    let at = c.entry_at.ensures in
    let is = c.in-Some.is in
    let found : slice_get table.structs.items c.in-Struct.number ≡ Some c.in-Some.entry.now = rw is at (sym at) in
    let these = fields-there (types_of table) table.structs.items c.in-Struct.number c.in-Some.entry.now found in
    let items = c.as_slice.ensures.value in
    let parts = parts-there structs c.args.depth c.in-Struct.number c.if-depth-gt0.true in
    let put = rw items at c.put_fields.ensures in
    rw (c.in-Struct.is, parts, these) put

pub put_parts-returns-in-None : goal.put_parts-returns-in-None
put_parts-returns-in-None t c =
    let table = c.args.table.now in
    let structs = (globals_in table).structs in
    let at = c.entry_at.ensures in
    let is = c.in-None.is in
    let found : slice_get table.structs.items c.in-Struct.number ≡ None = rw is at (sym at) in
    let gone = parts-none structs c.args.depth c.in-Struct.number (no_fields (types_of table) table.structs.items c.in-Struct.number found) in
    rw (c.in-Struct.is, gone) (sym (append-nil _))

pub put_parts-put_fields-requires : goal.put_parts-put_fields-requires
put_parts-put_fields-requires t c =
    let table = c.args.table.now in
    let structs = (globals_in table).structs in
    let at = c.entry_at.ensures in
    let is = c.in-Some.is in
    let found : slice_get table.structs.items c.in-Struct.number ≡ Some c.in-Some.entry.now = rw is at (sym at) in
    let these = fields-there (types_of table) table.structs.items c.in-Struct.number c.in-Some.entry.now found in
    let parts = parts-there structs c.args.depth c.in-Struct.number c.if-depth-gt0.true in
    (omega (arith, c.if-depth-gt0.true), rw c.as_slice.ensures.value (rw (c.in-Struct.is, parts, these) at c.requires))

pub put_fields-put_parts-requires : goal.put_fields-put_parts-requires
put_fields-put_parts-requires t c =
    let types = types_of c.args.table.now in
    let p = parts_within (globals_in c.args.table.now).structs c.args.depth in
    let at = c.loop-field.field-index in
    let all = c.args.fields.now in
    let cut : drop at all ≡ c.field-item.result ∷ drop (suc at) all = rw c.field-item.is (drop-cons all at _ c.loop-field-test.true) in
    let left = room-left (kind_of types) c.loop-field.parts.items c.args.parts.now.items _ _ c.loop-field.invariant.parts c.requires in
    (omega arith, room-first p (field_in types c.field-item.result) (map (field_in types) (drop (suc at) all)) (length c.loop-field.parts.items) (rw cut at left))
