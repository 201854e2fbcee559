use Rattle.std.proofs.Common.{rules, ◌≡◌, ◌∙◌, Some, None, ap}
use Rattle.type_table.specs.Scopes.{own_variable}
use Rattle.type_table.specs.Views.{kind_of}
use Rattle.type_table.specs.Visible.{globals_in, scope_of, types_of, variable_of}
use Rattle.codegen_base.specs.Statements.{Dropped, Local, own_spot, width}
use Rattle.codegen_simple.proofs.define.own_spot.Goals as goal

pub returns-in_ok-place-in-Some-clause-spot : goal.returns-in_ok-place-in-Some-clause-spot
returns-in_ok-place-in-Some-clause-spot c =
    let globals = globals_in c.args.context.now.table.now in
    let scope = scope_of c.args.context.now.table.now c.args.visible.now in
    let types = types_of c.args.context.now.table.now in
    let is : Some (variable_of types c.in-Some.entry) ≡ own_variable scope c.args.name.now = search rules in
    let words : c.words_of.result ≡ width globals c.args.context.now.elements.now scope (kind_of types c.in-Some.entry.kind) = c.words_of.ensures scope in
    ap (λ p. Local p c.words_of.result) c.in_ok-place-in-Some.ensures.fits ∙ ap (Local c.in-Some.entry.place) words ∙ ap (own_spot globals c.args.context.now.elements.now scope (kind_of types c.args.kind)) is

pub returns-in-None-clause-spot : goal.returns-in-None-clause-spot
returns-in-None-clause-spot c =
    let globals = globals_in c.args.context.now.table.now in
    let scope = scope_of c.args.context.now.table.now c.args.visible.now in
    let types = types_of c.args.context.now.table.now in
    let is : None ≡ own_variable scope c.args.name.now = search rules in
    let words : c.words_of-in-None.result ≡ width globals c.args.context.now.elements.now scope (kind_of types c.args.kind) = c.words_of-in-None.ensures scope in
    ap Dropped words ∙ ap (own_spot globals c.args.context.now.elements.now scope (kind_of types c.args.kind)) is
