use Rattle.std.proofs.Common.{◌≡◌, OnOk, sym, subst}
use Rattle.syntax.specs.View.{target_of}
use Rattle.type_table.specs.Views.{kind_of}
use Rattle.type_table.specs.Visible.{globals_in, scope_of, types_of}
use Rattle.codegen_base.specs.Generated.{takes}
use Rattle.codegen_base.specs.Layouts.{following_target}
use Rattle.codegen_simple.specs.Layouts.{layout_of}
use Rattle.codegen_simple.specs.Simples.{Appends}
use Rattle.codegen_header.proofs.range.take_item.Goals as goal

pub returns-in-Nothing-clause-emitted : goal.returns-in-Nothing-clause-emitted
returns-in-Nothing-clause-emitted c = λ yields.
    let table = c.args.context.now.table.now in
    subst (λ o. OnOk c.emit_unused.result (Appends c.args.code.now.items c.emit_unused.new.code.items (takes (globals_in table) c.args.context.now.elements.now yields (layout_of table c.args.layout.now) (kind_of (types_of table) c.args.kind) (target_of o)))) (sym c.in-Nothing.is) (c.emit_unused.ensures (scope_of c.args.context.now.table.now c.args.layout.now.visible))

pub returns-in-Define-clause-emitted : goal.returns-in-Define-clause-emitted
returns-in-Define-clause-emitted c = λ yields.
    let table = c.args.context.now.table.now in
    subst (λ o. OnOk c.take_name.result (Appends c.args.code.now.items c.take_name.new.code.items (takes (globals_in table) c.args.context.now.elements.now yields (layout_of table c.args.layout.now) (kind_of (types_of table) c.args.kind) (target_of o)))) (sym c.in-Define.is) (c.take_name.ensures.emitted yields)

pub returns-in-Assign-clause-emitted : goal.returns-in-Assign-clause-emitted
returns-in-Assign-clause-emitted c = λ yields.
    let table = c.args.context.now.table.now in
    subst (λ o. OnOk c.take_place.result (Appends c.args.code.now.items c.take_place.new.code.items (takes (globals_in table) c.args.context.now.elements.now yields (layout_of table c.args.layout.now) (kind_of (types_of table) c.args.kind) (target_of o)))) (sym c.in-Assign.is) (c.take_place.ensures yields)

pub returns-in-Define-clause-after : goal.returns-in-Define-clause-after
returns-in-Define-clause-after c =
    let table = c.args.context.now.table.now in
    subst (λ o. OnOk c.take_name.result (layout_of table c.take_name.new.layout ≡ following_target (globals_in table) c.args.context.now.elements.now (kind_of (types_of table) c.args.kind) (target_of o) (layout_of table c.args.layout.now))) (sym c.in-Define.is) c.take_name.ensures.after
