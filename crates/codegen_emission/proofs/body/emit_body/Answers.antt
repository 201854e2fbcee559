use Rattle.std.proofs.Common.{◌∙◌, List, ap, refl}
use Rattle.syntax.specs.View.{body_of}
use Rattle.type_table.specs.Views.{yield_of}
use Rattle.type_table.specs.Visible.{globals_in, types_of}
use Rattle.codegen_base.specs.Generated.{made_body}
use Rattle.codegen_flow.specs.declared.waits.Wait.{Wait}
use Rattle.codegen_emission.specs.declared.emitter.Emitter.{Emitter}
use Rattle.codegen_flow.specs.Waits.{filled}
use Rattle.codegen_flow.specs.Controls.{control}
use Rattle.codegen_emission.specs.Emitted.{site_of}
use Rattle.codegen_emission.proofs.Ending.{finishes}
use Rattle.codegen_emission.proofs.body.emit_body.Goals as goal

pub returns : goal.returns
returns c =
    let table = c.args.context.now.program.now.table.now in
    let e0 = c.args.emitter.now in
    let e1 = c.emit_all.new.emitter in
    let e2 : Emitter = record { code = c.fill.new.code; prints = e1.prints; selects = e1.selects; layout = e1.layout; marks = e1.marks } in
    let made = made_body (globals_in table) c.args.context.now.program.now.elements.now (yield_of (types_of table) c.args.context.now.result_type) (site_of table e0) (body_of c.args.body.now) in
    finishes table made e0 e1 e2 (control c.in_ok-flow.flow) c.in_ok-flow.ensures (c.fill.ensures ∙ ap (λ (ws : List Wait). filled ws 0 0 e1.code.items) c.as_slice.ensures.value) (record { prints = refl; selects = refl; layout = refl })
