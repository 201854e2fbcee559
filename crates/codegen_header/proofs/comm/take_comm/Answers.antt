use Rattle.std.proofs.Common.{◌≡◌, OnOk, sym, subst}
use Rattle.syntax.specs.View.{comm_of}
use Rattle.type_table.specs.Visible.{globals_in}
use Rattle.codegen_base.specs.Generated.{after_comm, comm_plan}
use Rattle.codegen_simple.specs.Layouts.{layout_of}
use Rattle.codegen_simple.specs.Simples.{Appends}
use Rattle.codegen_header.proofs.comm.take_comm.Goals as goal

pub returns-in-Receive-clause-emitted : goal.returns-in-Receive-clause-emitted
returns-in-Receive-clause-emitted c = λ yields.
    let table = c.args.context.now.table.now in
    subst (λ o. OnOk c.emit_dropped.result (Appends c.args.code.now.items c.emit_dropped.new.code.items (comm_plan (globals_in table) c.args.context.now.elements.now yields (layout_of table c.args.layout.now) (comm_of o)))) (sym c.in-Receive.is) (c.emit_dropped.ensures yields)

pub returns-in-Define-clause-emitted : goal.returns-in-Define-clause-emitted
returns-in-Define-clause-emitted c = λ yields.
    let table = c.args.context.now.table.now in
    subst (λ o. OnOk c.emit_define.result (Appends c.args.code.now.items c.emit_define.new.code.items (comm_plan (globals_in table) c.args.context.now.elements.now yields (layout_of table c.args.layout.now) (comm_of o)))) (sym c.in-Define.is) (c.emit_define.ensures.emitted yields)

pub returns-in-Assign-clause-emitted : goal.returns-in-Assign-clause-emitted
returns-in-Assign-clause-emitted c = λ yields.
    let table = c.args.context.now.table.now in
    subst (λ o. OnOk c.emit_assign.result (Appends c.args.code.now.items c.emit_assign.new.code.items (comm_plan (globals_in table) c.args.context.now.elements.now yields (layout_of table c.args.layout.now) (comm_of o)))) (sym c.in-Assign.is) (c.emit_assign.ensures yields)

pub returns-in-Define-clause-after : goal.returns-in-Define-clause-after
returns-in-Define-clause-after c = λ yields.
    let table = c.args.context.now.table.now in
    subst (λ o. OnOk c.emit_define.result (layout_of table c.emit_define.new.layout ≡ after_comm (globals_in table) c.args.context.now.elements.now yields (comm_of o) (layout_of table c.args.layout.now))) (sym c.in-Define.is) (c.emit_define.ensures.after yields)
