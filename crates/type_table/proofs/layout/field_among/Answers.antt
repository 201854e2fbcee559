use Rattle.std.proofs.Common.{◌≡◌, ◌∷◌, suc, drop, map, sym, ◌∙◌, add-one, drop-cons}
use Rattle.type_table.specs.Views.{field_in, kind_of}
use Rattle.syntax.specs.View.{name_of}
use Rattle.type_table.specs.Visible.{types_of, globals_in}
use Rattle.type_table.proofs.Fields.{next_field, next_fits}
use Rattle.type_table.proofs.layout.field_among.Goals as goal

pub loop-field-preserved : goal.loop-field-preserved
loop-field-preserved c =
    let structs = (globals_in c.args.table.now).structs in
    let in_field = field_in (types_of c.args.table.now) in
    let rest = map in_field (drop (suc c.loop-field.field-index) c.args.fields.now) in
    let cut : drop c.loop-field.field-index c.args.fields.now ≡ c.field-item.result ∷ drop (suc c.loop-field.field-index) c.args.fields.now = rw (c.field-item.is) (drop-cons c.args.fields.now c.loop-field.field-index _ c.loop-field-test.true) in
    let found = rw cut at c.loop-field.invariant.found in
    let room = rw cut at c.loop-field.invariant.room in
    let step = next_field structs (in_field c.field-item.result) rest c.args.name.now c.loop-field.place (rw c.as_slice.ensures.value at (sym c.eq.ensures ∙ c.if-eq.false)) in
    record {
      found = rw (add-one, c.words_of-place.ensures.words) (sym step ∙ found);
      room = rw (add-one, c.words_of-place.ensures.words) (next_fits structs (name_of c.field-item.result.name.now) (kind_of (types_of c.args.table.now) c.field-item.result.kind) rest c.loop-field.place room);
    }
