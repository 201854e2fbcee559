use Rattle.std.proofs.Common.{refl}
use Rattle.syntax.specs.View.{returned_of}
use Rattle.type_table.specs.Views.{yield_of}
use Rattle.type_table.specs.Visible.{globals_in, types_of}
use Rattle.codegen_emission.specs.declared.emitter.Emitter.{Emitter}
use Rattle.codegen_flow.specs.Controls.{control}
use Rattle.codegen_emission.proofs.Straight.{emits_return}
use Rattle.codegen_emission.proofs.single.give_back.Goals as goal

pub returns : goal.returns
returns c =
    let table = c.args.context.now.program.now.table.now in
    let e0 = c.args.emitter.now in
    let e1 : Emitter = record { code = c.emit_return.new.code; prints = e0.prints; selects = e0.selects; layout = e0.layout; marks = e0.marks } in
    emits_return table (globals_in table) c.args.context.now.program.now.elements.now (yield_of (types_of table) c.args.context.now.result_type) (returned_of c.args.returned.now) e0 e1 (control c.never.result) c.never.ensures c.in_ok-emit_return.ensures (record { prints = refl; selects = refl; layout = refl })
