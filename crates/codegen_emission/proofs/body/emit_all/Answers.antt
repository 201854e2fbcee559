use Rattle.std.proofs.Common.{rules, ◌≡◌, true}
use Rattle.syntax.specs.View.{body_of}
use Rattle.type_table.specs.Views.{yield_of}
use Rattle.type_table.specs.Visible.{globals_in, types_of}
use Rattle.codegen_flow.specs.Controls.{control}
use Rattle.codegen_emission.specs.Emitted.{site_of}
use Rattle.codegen_emission.proofs.Ending.{emits_finished}
use Rattle.codegen_emission.proofs.body.emit_all.Goals as goal

pub returns : goal.returns
returns c =
    let table = c.args.context.now.program.now.table.now in
    let f = control c.in_ok-flow.flow in
    let on : f.ends ≡ true = search rules in
    emits_finished table (globals_in table) c.args.context.now.program.now.elements.now (yield_of (types_of table) c.args.context.now.result_type) (site_of table c.args.emitter.now) (body_of c.args.body.now) c.args.emitter.now c.emit_statements.new.emitter c.emit_end.new.emitter f (control c.in_ok-end.end) (control c.join.new.flow)
    c.in_ok-flow.ensures on c.in_ok-end.ensures c.in_ok-join.ensures
