use Rattle.std.proofs.Common.{option_map, ap, sym, ◌∙◌}
use Rattle.std.proofs.lemmas.Option.{slice_get-map}
use Rattle.type_table.specs.Visible.{types_of, variable_of}
use Rattle.type_table.proofs.Names.{last_after, last_before, last_nowhere}
use Rattle.type_table.proofs.scope.last_from.Goals.{in_default-via-in-Some+else-place-count, in_default-via-in_default}
use Rattle.type_table.proofs.scope.last_from.Goals as goal

pub returns-in-Some : goal.returns-in-Some
returns-in-Some c =
    let types = types_of c.args.table.now in
    let entries = c.args.visible.now.entries.items in
    ap (option_map (variable_of types)) c.entry_at.ensures
    ∙ sym (slice_get-map (variable_of types) entries c.in-Some.place)
    ∙ sym (last_after types entries c.args.count c.args.name.now c.in-Some.place (sym c.in-Some.is ∙ c.number_of.ensures ∙ c.args.visible.now.found c.args.name.now) c.if-place-count.true)

pub returns-in_default : goal.returns-in_default
returns-in_default c =
    let types = types_of c.args.table.now in
    let entries = c.args.visible.now.entries.items in
    elim c.in_default.branch [
      | in_default-via-in-Some+else-place-count w ↦ sym (last_before types entries c.args.count c.args.name.now w.in-Some.place (sym w.in-Some.is ∙ c.number_of.ensures ∙ c.args.visible.now.found c.args.name.now) w.if-place-count.false)
      | in_default-via-in_default w ↦ sym (last_nowhere types entries c.args.count c.args.name.now (sym w.in_default.is ∙ c.number_of.ensures ∙ c.args.visible.now.found c.args.name.now))
    ]
