use Rattle.std.proofs.Common.{rules, ◌≡◌, Some}
use Rattle.syntax.specs.declared.node.TypeNode.TheFolds.{the_lemmas}
use Rattle.syntax.specs.View.{type_of}
use Rattle.type_table.specs.Scopes.{nothing_declared, type_in}
use Rattle.type_table.specs.Views.{kind_of}
use Rattle.type_table.proofs.Written.{channel_written}
use Rattle.type_table.proofs.value_type.+global_type_in.Goals as goal

pub returns-in-Some : goal.returns-in-Some
returns-in-Some t c =
    let types = c.args.types.now in
    let inner = c.deref-in-Channel.ensures in
    let following = c.deref-in-Some.ensures in
    let called = c.global_type_in-in-Channel.ensures in
    let some = c.in-Some.is in
    let found : Some (kind_of types c.in-Some.field-0) ≡ type_in types nothing_declared (type_of c.in-Channel.element.value) = rw (← inner) (rw some at called) in
    let h = channel_written types nothing_declared c.in-Channel.direction (type_of c.in-Channel.element.value) (kind_of types c.in-Some.field-0) found in
    rw following (search (rules, the_lemmas, h))
