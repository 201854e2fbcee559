use Rattle.std.proofs.Common.{rules, ◌≡◌, length, refl}
use Rattle.syntax.specs.View.{simple_of}
use Rattle.type_table.specs.Visible.{globals_in}
use Rattle.codegen_emission.specs.declared.emitter.Emitter.{Emitter}
use Rattle.codegen_flow.specs.Controls.{through}
use Rattle.codegen_emission.proofs.Straight.{emits_simple}
use Rattle.codegen_emission.proofs.alone.emit_alone.Goals as goal

pub returns : goal.returns
returns c =
    let table = c.args.context.now.program.now.table.now in
    let e0 = c.args.emitter.now in
    let e1 : Emitter = record { code = c.emit_simple.new.code; prints = c.put_prints.new.prints; selects = e0.selects; layout = c.emit_simple.new.layout; marks = e0.marks } in
    let first : c.in_ok-first.first ≡ length e0.prints.items = search rules in
    emits_simple table (globals_in table) c.args.context.now.program.now.elements.now (simple_of c.args.simple.now) e0 e1 through c.in_ok-first.first refl first c.in_ok-emit_simple.ensures.emitted (c.in_ok-put_prints.ensures c.args.context.now.program.now.elements.now) refl c.in_ok-emit_simple.ensures.after c.in_ok-emit_simple.ensures.kept
