use Rattle.std.proofs.Common.{map, refl}
use Rattle.std.proofs.lemmas.Result.{on_ok_weaker}
use Rattle.syntax.specs.View.{expression_of, name_of}
use Rattle.type_table.specs.Visible.{globals_in}
use Rattle.meaning.specs.Expressions.{number_of}
use Rattle.codegen_emission.specs.declared.emitter.Emitter.{Emitter}
use Rattle.codegen_flow.specs.Controls.{through}
use Rattle.codegen_emission.proofs.Straight.{emits_go}
use Rattle.codegen_emission.proofs.single.start.Goals as goal

pub returns : goal.returns
returns c = λ yields.
    let table = c.args.context.now.program.now.table.now in
    let globals = globals_in table in
    let e0 = c.args.emitter.now in
    let e1 : Emitter = record { code = c.emit_go.new.code; prints = e0.prints; selects = e0.selects; layout = e0.layout; marks = e0.marks } in
    on_ok_weaker c.emit_go.result (λ put. emits_go table globals c.args.context.now.program.now.elements.now yields (number_of globals (name_of c.args.name.now)) (map expression_of c.args.arguments.now.values.items) e0 e1 through refl put (record { prints = refl; selects = refl; layout = refl })) c.emit_go.ensures
