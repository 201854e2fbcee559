use Rattle.std.proofs.Common.{length, map, refl}
use Rattle.syntax.specs.View.{expression_of, name_of}
use Rattle.type_table.specs.Visible.{globals_in, scope_of}
use Rattle.codegen_base.specs.Statements.{right_types}
use Rattle.codegen_emission.specs.declared.emitter.Emitter.{Emitter}
use Rattle.codegen_flow.specs.Controls.{through}
use Rattle.codegen_emission.proofs.Straight.{emits_untyped}
use Rattle.codegen_emission.proofs.single.declare_untyped.Goals as goal

pub returns : goal.returns
returns c = λ yields.
    let table = c.args.context.now.program.now.table.now in
    let globals = globals_in table in
    let elements = c.args.context.now.program.now.elements.now in
    let e0 = c.args.emitter.now in
    let e1 : Emitter = record { code = c.emit_untyped.new.code; prints = e0.prints; selects = e0.selects; layout = c.emit_untyped.new.layout; marks = e0.marks } in
    let names = map name_of c.args.names.now in
    let right = map expression_of c.args.right.now in
    let emitted = c.in_ok-emit_untyped.ensures in
    emits_untyped table globals elements yields names (right_types globals elements (scope_of table e0.layout.visible) (length names) right) right e0 e1 through refl emitted.emitted refl refl emitted.after emitted.kept
