use Rattle.std.proofs.Common.{rules, arith, ◌≡◌, ◌<◌, ◌^◌, Some, None, option_map, refl}
use Rattle.syntax.specs.View.{name_of, place_of}
use Rattle.type_table.specs.Scopes.{variable_named}
use Rattle.type_table.specs.Visible.{globals_in, scope_of, types_of, variable_of}
use Rattle.typing_rules.specs.Operations.{variable_at}
use Rattle.codegen_simple.proofs.Placing.{selected_none, variable_seen}
use Rattle.codegen_simple.proofs.place.selected.Goals as goal

pub returns-in_default : goal.returns-in_default
returns-in_default c =
    let scope = scope_of c.args.table.now c.args.visible.now in
    let is : variable_named scope (name_of c.args.place.now.name) ≡ None = search rules in
    selected_none (types_of c.args.table.now) (globals_in c.args.table.now) scope (place_of c.args.place.now) is

pub returns : goal.returns
returns c =
    let scope = scope_of c.args.table.now c.args.visible.now in
    let types = types_of c.args.table.now in
    let name = name_of c.args.place.now.name in
    let entry = c.in-Some.entry in
    let is : variable_named scope name ≡ Some (variable_of types entry) = search rules in
    let small : entry.place < 2 ^ 64 = search (rules, arith) in
    let seen = variable_seen types scope name entry (record { place = entry.place; kind = entry.kind }) small refl refl is in
    rw c.as_slice-2.ensures.value at (c.follow.ensures (option_map variable_at (variable_named scope name)) seen)
