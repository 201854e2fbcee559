use Rattle.std.proofs.Common.{◌≡◌, ◌∙◌, ap}
use Rattle.syntax.specs.View.{type_of}
use Rattle.type_table.specs.Scopes.{type_in}
use Rattle.type_table.specs.Views.{kind_of}
use Rattle.type_table.specs.Visible.{scope_of, types_of}
use Rattle.meaning.specs.Values.{known}
use Rattle.codegen_header.proofs.variables.emit_typed.Goals as goal

pub returns-clause-emitted : goal.returns-clause-emitted
returns-clause-emitted c =
    let types = types_of c.args.context.now.table.now in
    let is : kind_of types c.known-kind.result ≡ known (type_in types (scope_of c.args.context.now.table.now c.args.layout.now.visible) (type_of c.args.kind.now)) = c.known-kind.ensures types ∙ ap known c.type_in.ensures in
    rw is at c.emit_known.ensures.emitted

pub returns-clause-after : goal.returns-clause-after
returns-clause-after c =
    let types = types_of c.args.context.now.table.now in
    let is : kind_of types c.known-kind.result ≡ known (type_in types (scope_of c.args.context.now.table.now c.args.layout.now.visible) (type_of c.args.kind.now)) = c.known-kind.ensures types ∙ ap known c.type_in.ensures in
    rw is at c.emit_known.ensures.after
