use Rattle.std.proofs.Common.{rules, ◌≡◌, Some}
use Rattle.syntax.specs.declared.node.TypeNode.TheFolds.{the_lemmas}
use Rattle.syntax.specs.View.{type_of}
use Rattle.type_table.specs.Scopes.{type_in}
use Rattle.type_table.specs.Views.{kind_of}
use Rattle.type_table.specs.Visible.{types_of}
use Rattle.type_table.proofs.Written.{channel_written}
use Rattle.meaning.specs.Variables.{scope_in}
use Rattle.reference_scope.specs.Scopes.{blocks_of}
use Rattle.reference_value.proofs.callee.+type_in.Goals as goal

pub returns-in-Some-type_in : goal.returns-in-Some-type_in
returns-in-Some-type_in t c =
    let types = types_of c.args.table.now in
    let scope = scope_in (blocks_of types c.args.scope.now) in
    let inner = c.deref-in-Channel.ensures in
    let following = c.deref-in-Some-type_in.ensures in
    let called = c.type_in-in-Channel.ensures in
    let some = c.in-Some-type_in.is in
    let found : Some (kind_of types c.in-Some-type_in.field-0) ≡ type_in types scope (type_of c.in-Channel.element.value) = rw (← inner) (rw some at called) in
    let h = channel_written types scope c.in-Channel.direction (type_of c.in-Channel.element.value) (kind_of types c.in-Some-type_in.field-0) found in
    rw following (search (rules, the_lemmas, h))
