use Rattle.std.proofs.Common.{rules, ◌≡◌}
use Rattle.std.proofs.lemmas.Result.{IfOk-weaker}
use Rattle.syntax.specs.View.{statement_of}
use Rattle.syntax.specs.Tree.{Break, Continue}
use Rattle.syntax.specs.declared.node.ElseNode.TheFolds.{the_lemmas}
use Rattle.syntax.proofs.Nodes.{break_is, continue_is}
use Rattle.type_table.specs.Views.{yield_of}
use Rattle.type_table.specs.Visible.{types_of}
use Rattle.codegen_flow.specs.Controls.{control}
use Rattle.codegen_emission.proofs.Emitting.{emits_break, emits_continue}
use Rattle.codegen_emission.proofs.single.emit_single.Goals as goal

pub returns-in-Break : goal.returns-in-Break
returns-in-Break c =
    let is : statement_of c.args.statement.now ≡ Break = break_is _ c.in-Break.is in
    rw is (IfOk-weaker c.emit_jump.result _ _ (λ flow jump. emits_break c.args.context.now.program.now.table.now c.args.emitter.now c.emit_jump.new.emitter (control flow) jump) c.emit_jump.ensures)

pub returns-in-Continue : goal.returns-in-Continue
returns-in-Continue c =
    let is : statement_of c.args.statement.now ≡ Continue = continue_is _ c.in-Continue.is in
    rw is (IfOk-weaker c.emit_jump-in-Continue.result _ _ (λ flow jump. emits_continue c.args.context.now.program.now.table.now c.args.emitter.now c.emit_jump-in-Continue.new.emitter (control flow) jump) c.emit_jump-in-Continue.ensures)

pub returns-in_ok-declare_typed-in-Typed : goal.returns-in_ok-declare_typed-in-Typed
returns-in_ok-declare_typed-in-Typed c =
    let emitted = c.in_ok-declare_typed-in-Typed.ensures (yield_of (types_of c.args.context.now.program.now.table.now) c.args.context.now.result_type) in
    search (rules, the_lemmas, emitted)

pub returns-in_ok-declare_untyped-in-Untyped : goal.returns-in_ok-declare_untyped-in-Untyped
returns-in_ok-declare_untyped-in-Untyped c =
    let emitted = c.in_ok-declare_untyped-in-Untyped.ensures (yield_of (types_of c.args.context.now.program.now.table.now) c.args.context.now.result_type) in
    search (rules, the_lemmas, emitted)

pub returns-in_ok-start-in-Go : goal.returns-in_ok-start-in-Go
returns-in_ok-start-in-Go c =
    let emitted = c.in_ok-start-in-Go.ensures (yield_of (types_of c.args.context.now.program.now.table.now) c.args.context.now.result_type) in
    search (rules, the_lemmas, emitted)
