use Rattle.std.proofs.Common.{map, option_map, refl}
use Rattle.syntax.specs.View.{name_of, right_of, type_of}
use Rattle.type_table.specs.Scopes.{type_in}
use Rattle.type_table.specs.Visible.{globals_in, scope_of, types_of}
use Rattle.meaning.specs.Values.{known}
use Rattle.codegen_emission.specs.declared.emitter.Emitter.{Emitter}
use Rattle.codegen_flow.specs.Controls.{through}
use Rattle.codegen_emission.proofs.Straight.{emits_typed}
use Rattle.codegen_emission.proofs.single.declare_typed.Goals as goal

pub returns : goal.returns
returns c = λ yields.
    let table = c.args.context.now.program.now.table.now in
    let e0 = c.args.emitter.now in
    let e1 : Emitter = record { code = c.emit_typed.new.code; prints = e0.prints; selects = e0.selects; layout = c.emit_typed.new.layout; marks = e0.marks } in
    let kind = known (type_in (types_of table) (scope_of table e0.layout.visible) (type_of c.args.kind.now)) in
    let emitted = c.in_ok-emit_typed.ensures in
    emits_typed table (globals_in table) c.args.context.now.program.now.elements.now yields (map name_of c.args.names.now) kind (option_map right_of c.args.right.now) e0 e1 through refl emitted.emitted refl refl emitted.after emitted.kept
