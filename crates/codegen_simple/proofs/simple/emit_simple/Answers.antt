use Rattle.std.proofs.Common.{◌≡◌, OnOk, List, length, map, sym, subst}
use Rattle.bytecode.specs.declared.instr.Instr.TheVariants as instrs
use Rattle.syntax.specs.declared.node.Name.{Name}
use Rattle.syntax.specs.declared.node.PartNode.{PartNode}
use Rattle.syntax.specs.declared.node.PlaceNode.{PlaceNode}
use Rattle.syntax.specs.declared.node.ExpressionNode.{ExpressionNode}
use Rattle.syntax.specs.View.{expression_of, name_of, part_of, place_of, right_of, simple_of}
use Rattle.type_table.specs.Visible.{globals_in}
use Rattle.codegen_base.specs.Layouts.{following_simple, declaring_all}
use Rattle.codegen_base.specs.Statements.{defines, pushes_parts, right_types, sets, simple_plan}
use Rattle.plan.specs.Plan.{Do, Skip}
use Rattle.codegen_simple.specs.Layouts.{layout_of}
use Rattle.codegen_simple.specs.Simples.{Appends}
use Rattle.codegen_simple.proofs.simple.emit_simple.Goals as goal

pub returns-in-Call-clause-emitted : goal.returns-in-Call-clause-emitted
returns-in-Call-clause-emitted c =
    let table = c.args.context.now.table.now in
    subst (λ s. OnOk c.call.result (Appends c.args.code.now.items c.call.new.code.items (simple_plan (globals_in table) c.args.context.now.elements.now (layout_of table c.args.layout.now) c.args.number (simple_of s)))) (sym c.in-Call.is) c.call.ensures

pub returns-in-Close-clause-emitted : goal.returns-in-Close-clause-emitted
returns-in-Close-clause-emitted c =
    let table = c.args.context.now.table.now in
    subst (λ s. OnOk c.close.result (Appends c.args.code.now.items c.close.new.code.items (simple_plan (globals_in table) c.args.context.now.elements.now (layout_of table c.args.layout.now) c.args.number (simple_of s)))) (sym c.in-Close.is) c.close.ensures

pub returns-in-Receive-clause-emitted : goal.returns-in-Receive-clause-emitted
returns-in-Receive-clause-emitted c =
    let table = c.args.context.now.table.now in
    subst (λ s. OnOk c.receive.result (Appends c.args.code.now.items c.receive.new.code.items (simple_plan (globals_in table) c.args.context.now.elements.now (layout_of table c.args.layout.now) c.args.number (simple_of s)))) (sym c.in-Receive.is) c.receive.ensures

pub returns-in-Send-clause-emitted : goal.returns-in-Send-clause-emitted
returns-in-Send-clause-emitted c =
    let table = c.args.context.now.table.now in
    subst (λ s. OnOk c.send.result (Appends c.args.code.now.items c.send.new.code.items (simple_plan (globals_in table) c.args.context.now.elements.now (layout_of table c.args.layout.now) c.args.number (simple_of s)))) (sym c.in-Send.is) c.send.ensures

pub returns-in-Increment-clause-emitted : goal.returns-in-Increment-clause-emitted
returns-in-Increment-clause-emitted c =
    let table = c.args.context.now.table.now in
    subst (λ s. OnOk c.step.result (Appends c.args.code.now.items c.step.new.code.items (simple_plan (globals_in table) c.args.context.now.elements.now (layout_of table c.args.layout.now) c.args.number (simple_of s)))) (sym c.in-Increment.is) c.step.ensures

pub returns-in-Decrement-clause-emitted : goal.returns-in-Decrement-clause-emitted
returns-in-Decrement-clause-emitted c =
    let table = c.args.context.now.table.now in
    subst (λ s. OnOk c.step-in-Decrement.result (Appends c.args.code.now.items c.step-in-Decrement.new.code.items (simple_plan (globals_in table) c.args.context.now.elements.now (layout_of table c.args.layout.now) c.args.number (simple_of s)))) (sym c.in-Decrement.is) c.step-in-Decrement.ensures

pub returns-in-Update-clause-emitted : goal.returns-in-Update-clause-emitted
returns-in-Update-clause-emitted c =
    let table = c.args.context.now.table.now in
    subst (λ s. OnOk c.update.result (Appends c.args.code.now.items c.update.new.code.items (simple_plan (globals_in table) c.args.context.now.elements.now (layout_of table c.args.layout.now) c.args.number (simple_of s)))) (sym c.in-Update.is) c.update.ensures

pub returns-in-Print-clause-emitted : goal.returns-in-Print-clause-emitted
returns-in-Print-clause-emitted c =
    let globals = globals_in c.args.context.now.table.now in
    let elements = c.args.context.now.elements.now in
    let layout = layout_of c.args.context.now.table.now c.args.layout.now in
    let printed = subst (λ (l : List PartNode). OnOk c.print.result (Appends c.args.code.now.items c.print.new.code.items (pushes_parts globals elements layout.scope (map part_of l) (Do (instrs.Print c.args.number) Skip)))) c.as_slice-parts.ensures.value c.print.ensures in
    subst (λ s. OnOk c.print.result (Appends c.args.code.now.items c.print.new.code.items (simple_plan globals elements layout c.args.number (simple_of s)))) (sym c.in-Print.is) printed

pub returns-in-Assign-clause-emitted : goal.returns-in-Assign-clause-emitted
returns-in-Assign-clause-emitted c =
    let globals = globals_in c.args.context.now.table.now in
    let elements = c.args.context.now.elements.now in
    let layout = layout_of c.args.context.now.table.now c.args.layout.now in
    let right = right_of c.in-Assign.right in
    let put = subst (λ (l : List PlaceNode). OnOk c.set.result (Appends c.args.code.now.items c.set.new.code.items (sets globals elements layout.scope (map place_of l) (right_types globals elements layout.scope (length (map place_of l)) right) right))) c.as_slice-places.ensures.value (subst (λ (l : List ExpressionNode). OnOk c.set.result (Appends c.args.code.now.items c.set.new.code.items (sets globals elements layout.scope (map place_of c.as_slice-places.result.now) (right_types globals elements layout.scope (length (map place_of c.as_slice-places.result.now)) (map expression_of l)) (map expression_of l)))) c.as_slice.ensures.value c.set.ensures) in
    subst (λ s. OnOk c.set.result (Appends c.args.code.now.items c.set.new.code.items (simple_plan globals elements layout c.args.number (simple_of s)))) (sym c.in-Assign.is) put

pub returns-in-Define-clause-emitted : goal.returns-in-Define-clause-emitted
returns-in-Define-clause-emitted c =
    let globals = globals_in c.args.context.now.table.now in
    let elements = c.args.context.now.elements.now in
    let layout = layout_of c.args.context.now.table.now c.args.layout.now in
    let right = right_of c.in-Define.right in
    let put = subst (λ (l : List Name). OnOk c.define.result (Appends c.args.code.now.items c.define.new.code.items (defines globals elements layout (map name_of l) (right_types globals elements layout.scope (length (map name_of l)) right) right))) c.as_slice-names.ensures.value (subst (λ (l : List ExpressionNode). OnOk c.define.result (Appends c.args.code.now.items c.define.new.code.items (defines globals elements layout (map name_of c.as_slice-names.result.now) (right_types globals elements layout.scope (length (map name_of c.as_slice-names.result.now)) (map expression_of l)) (map expression_of l)))) c.as_slice-in-Define.ensures.value c.define.ensures.emitted) in
    subst (λ s. OnOk c.define.result (Appends c.args.code.now.items c.define.new.code.items (simple_plan globals elements layout c.args.number (simple_of s)))) (sym c.in-Define.is) put

pub returns-in-Define-clause-after : goal.returns-in-Define-clause-after
returns-in-Define-clause-after c =
    let table = c.args.context.now.table.now in
    let globals = globals_in table in
    let elements = c.args.context.now.elements.now in
    let layout = layout_of table c.args.layout.now in
    let right = right_of c.in-Define.right in
    let after = subst (λ (l : List Name). OnOk c.define.result (layout_of table c.define.new.layout ≡ declaring_all globals elements (map name_of l) (right_types globals elements layout.scope (length (map name_of l)) right) layout)) c.as_slice-names.ensures.value (subst (λ (l : List ExpressionNode). OnOk c.define.result (layout_of table c.define.new.layout ≡ declaring_all globals elements (map name_of c.as_slice-names.result.now) (right_types globals elements layout.scope (length (map name_of c.as_slice-names.result.now)) (map expression_of l)) layout)) c.as_slice-in-Define.ensures.value c.define.ensures.after) in
    subst (λ s. OnOk c.define.result (layout_of table c.define.new.layout ≡ following_simple globals elements (simple_of s) layout)) (sym c.in-Define.is) after
