use Rattle.std.proofs.Common.{rules, ◌≡◌, Some}
use Rattle.syntax.specs.declared.node.TypeNode.TheFolds.{the_lemmas}
use Rattle.syntax.specs.View.{type_of}
use Rattle.type_table.specs.Scopes.{type_in}
use Rattle.type_table.specs.Views.{kind_of}
use Rattle.type_table.specs.Visible.{types_of, scope_of}
use Rattle.type_table.proofs.Written.{channel_written}
use Rattle.type_table.proofs.value_type.+type_in.Goals as goal

pub returns-in-Some-type_in : goal.returns-in-Some-type_in
returns-in-Some-type_in t c =
    let types = types_of c.args.table.now in
    let inner = c.deref-in-Channel.ensures in
    let following = c.deref-in-Some-type_in.ensures in
    let called = c.type_in-in-Channel.ensures in
    let some = c.in-Some-type_in.is in
    let found : Some (kind_of types c.in-Some-type_in.field-0) ≡ type_in types (scope_of c.args.table.now c.args.visible.now) (type_of c.in-Channel.element.value) = rw (← inner) (rw some at called) in
    let h = channel_written types (scope_of c.args.table.now c.args.visible.now) c.in-Channel.direction (type_of c.in-Channel.element.value) (kind_of types c.in-Some-type_in.field-0) found in
    rw following (search (rules, the_lemmas, h))
