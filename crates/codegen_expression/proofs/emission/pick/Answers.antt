use Rattle.std.proofs.Common.{rules, ◌≡◌, Some, None}
use Rattle.type_table.specs.Containment.{field_of}
use Rattle.type_table.specs.Scopes.{nothing_declared}
use Rattle.type_table.specs.Views.{kind_of}
use Rattle.type_table.specs.Visible.{globals_in, types_of}
use Rattle.codegen_expression.proofs.Selecting.{picked, not_picked}
use Rattle.codegen_expression.proofs.emission.pick.Goals as goal

pub returns-in-Some : goal.returns-in-Some
returns-in-Some c =
    let globals = globals_in c.args.context.now.table.now in
    let types = types_of c.args.context.now.table.now in
    let kind = kind_of types c.args.kind in
    let part = c.in-Some.part in
    let is : field_of globals.structs kind c.args.field.now ≡ Some (record { place = part.place; kind = Some (kind_of types part.kind) }) = search rules in
    picked globals c.args.context.now.elements.now kind c.args.field.now part.place (kind_of types part.kind) c.words_of-words.result c.words_of.result is (c.words_of-words.ensures nothing_declared) (c.words_of.ensures nothing_declared)

pub returns-in-None : goal.returns-in-None
returns-in-None c =
    let globals = globals_in c.args.context.now.table.now in
    let kind = kind_of (types_of c.args.context.now.table.now) c.args.kind in
    let is : field_of globals.structs kind c.args.field.now ≡ None = search rules in
    not_picked globals c.args.context.now.elements.now kind c.args.field.now c.words_of-words.result is (c.words_of-words.ensures nothing_declared)
