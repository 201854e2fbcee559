use Rattle.std.proofs.Common.{refl}
use Rattle.syntax.specs.View.{simple_of}
use Rattle.type_table.specs.Visible.{globals_in}
use Rattle.codegen_base.specs.Generated.{Site, made_simple}
use Rattle.codegen_emission.specs.declared.emitter.Emitter.{Emitter}
use Rattle.codegen_flow.specs.Controls.{through}
use Rattle.codegen_emission.proofs.Blocks.{Entered, Left, emits_inside}
use Rattle.codegen_emission.proofs.alone.emit_inside.Goals as goal

pub returns : goal.returns
returns c =
    let table = c.args.context.now.program.now.table.now in
    let e0 = c.args.emitter.now in
    let e1 : Emitter = record { code = e0.code; prints = e0.prints; selects = e0.selects; layout = c.enter-mark.new.layout; marks = e0.marks } in
    let e2 = c.emit_marked.new.emitter in
    let e3 : Emitter = record { code = e2.code; prints = e2.prints; selects = e2.selects; layout = c.leave.new.layout; marks = e2.marks } in
    let mark = c.enter-mark.result in
    let entered : Entered table e0 e1 mark.count mark.outer =
    record { code = refl; prints = refl; selects = refl; layout = c.enter-mark.ensures.layout table; entries = c.enter-mark.ensures.kept; count_is = c.enter-mark.ensures.count; outer_is = c.enter-mark.ensures.outer } in
    let left : Left e2 e3 mark.count mark.outer = record { code = refl; prints = refl; selects = refl; entries = c.leave.ensures.entries; outer_is = c.leave.ensures.outer; words = c.leave.ensures.words; locals = c.leave.ensures.locals } in
    emits_inside table (λ (site : Site). made_simple (globals_in table) c.args.context.now.program.now.elements.now site (simple_of c.args.simple.now)) e0 e1 e2 e3 mark.count mark.outer through entered c.in_ok-emit_marked.ensures left
