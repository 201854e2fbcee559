use Rattle.std.proofs.Common.{◌∙◌, refl}
use Rattle.type_table.specs.Views.{yield_of}
use Rattle.type_table.specs.Visible.{globals_in, types_of}
use Rattle.plan.specs.Plan.{Stop}
use Rattle.codegen_emission.specs.declared.emitter.Emitter.{Emitter}
use Rattle.codegen_flow.specs.Controls.{control}
use Rattle.codegen_emission.proofs.Ending.{emits_end}
use Rattle.codegen_emission.proofs.body.emit_end.Goals as goal

pub returns : goal.returns
returns c =
    let table = c.args.context.now.program.now.table.now in
    let e0 = c.args.emitter.now in
    let e1 : Emitter = record { code = c.push.new.self; prints = e0.prints; selects = e0.selects; layout = e0.layout; marks = e0.marks } in
    emits_end table (globals_in table) c.args.context.now.program.now.elements.now (yield_of (types_of table) c.args.context.now.result_type) e0 e1 (control c.never.result) c.never.ensures (λ leave again. c.in_ok-push.ensures.items ∙ c.in_ok-push_zero_result.ensures leave again Stop) (record { prints = refl; selects = refl; layout = refl })
