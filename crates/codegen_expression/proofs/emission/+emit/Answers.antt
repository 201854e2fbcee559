use Rattle.std.proofs.Common.{rules, arith, ◌≡◌, ◌∙◌, ap, sym, length, option_map}
use Rattle.std.proofs.lemmas.Result.{on_ok_weaker}
use Rattle.bytecode.specs.declared.instr.Instr.TheVariants as instrs
use Rattle.syntax.specs.Tree.{Unary, Make, MakeSized, Length, Capacity}
use Rattle.syntax.specs.View.{expression_of, name_of, type_of}
use Rattle.type_table.specs.Views.{kind_of}
use Rattle.type_table.specs.Visible.{globals_in, scope_of, types_of}
use Rattle.checker_base.specs.Views.{worth_of}
use Rattle.codegen_base.specs.Pushes.{emits, signed}
use Rattle.codegen_expression.proofs.Emitting.{puts_both}
use Rattle.codegen_expression.proofs.Operating.{puts_signed, puts_then}
use Rattle.codegen_expression.proofs.Selecting.{literal_none, literal_some, puts_selection}
use Rattle.codegen_expression.proofs.Pushed.{puts_pushes, puts_right}
use Rattle.codegen_expression.proofs.Requesting.{emits_make, emits_make_sized, emits_receive}
use Rattle.syntax.proofs.Nodes.{integer_is, selection_is, unary_is, composite_is, call_is, make_is, make_sized_is, length_is, capacity_is}
use Rattle.codegen_expression.proofs.emission.+emit.Goals as goal

pub emit-returns-in-Integer-clause-worth : goal.emit-returns-in-Integer-clause-worth
emit-returns-in-Integer-clause-worth t c = rw (integer_is _ _ c.in-Integer.is) (c.worth_literal.ensures.worth (types_of c.args.context.now.table.now))

pub emit-returns-in_ok-whole-in-Selection-clause-emitted : goal.emit-returns-in_ok-whole-in-Selection-clause-emitted
emit-returns-in_ok-whole-in-Selection-clause-emitted t c =
    rw (selection_is _ _ _ c.in-Selection.is) (on_ok_weaker c.emit_field.result (λ e.
    puts_selection (globals_in c.args.context.now.table.now) c.args.context.now.elements.now (scope_of c.args.context.now.table.now c.args.visible.now) (expression_of c.in-Selection.whole.value) (name_of c.in-Selection.field)
    (option_map (worth_of (types_of c.args.context.now.table.now)) c.in_ok-whole-in-Selection.whole) c.args.code.now.items c.emit-in-Selection.new.code.items c.emit_field.new.code.items
    (rw c.deref-in-Selection.ensures at c.in_ok-whole-in-Selection.ensures.worth) (rw c.deref-in-Selection.ensures at c.in_ok-whole-in-Selection.ensures.emitted) (rw c.as_slice.ensures.value at e)) c.emit_field.ensures.emitted)

pub emit-returns-in-Composite-clause-worth : goal.emit-returns-in-Composite-clause-worth
emit-returns-in-Composite-clause-worth t c = rw (composite_is _ _ _ _ c.in-Composite.is) (c.emit_composite.ensures.worth c.in-Composite.field-2)

pub emit-returns-in-Composite-clause-emitted : goal.emit-returns-in-Composite-clause-emitted
emit-returns-in-Composite-clause-emitted t c = rw (composite_is _ _ _ _ c.in-Composite.is) (rw c.as_slice-values.ensures.value at (c.emit_composite.ensures.emitted c.in-Composite.field-2))

pub emit-returns-in_ok-operand-in-Unary-clause-worth : goal.emit-returns-in_ok-operand-in-Unary-clause-worth
emit-returns-in_ok-operand-in-Unary-clause-worth t c =
    rw (unary_is _ _ _ c.in-Unary.is) (rw (c.in_ok-operand-in-Unary.ensures.worth, c.deref-in-Unary.ensures) at (c.emit_sign.ensures.worth (types_of c.args.context.now.table.now)))

pub emit-returns-in_ok-operand-in-Unary-clause-emitted : goal.emit-returns-in_ok-operand-in-Unary-clause-emitted
emit-returns-in_ok-operand-in-Unary-clause-emitted t c =
    let operand = emits (globals_in c.args.context.now.table.now) c.args.context.now.elements.now (scope_of c.args.context.now.table.now c.args.visible.now) (expression_of c.deref-in-Unary.result.now) in
    let is : expression_of c.args.expression.now ≡ Unary c.in-Unary.operator (expression_of c.deref-in-Unary.result.now) = unary_is _ _ _ c.in-Unary.is ∙ ap (λ n. Unary c.in-Unary.operator (expression_of n)) (sym c.deref-in-Unary.ensures) in
    rw is (on_ok_weaker c.emit_sign.result (λ e. puts_both c.args.code.now.items c.emit-in-Unary.new.code.items c.emit_sign.new.code.items operand (signed c.in-Unary.operator) c.in_ok-operand-in-Unary.ensures.emitted
    (puts_signed c.in-Unary.operator c.emit-in-Unary.new.code.items c.emit_sign.new.code.items e)) c.emit_sign.ensures.emitted)

-- ---- operators and values

pub push-returns : goal.push-returns
push-returns t c =
    let first : c.len-first.result ≡ length c.args.code.now.items = search rules in
    on_ok_weaker c.settle.result (puts_pushes (globals_in c.args.context.now.table.now) c.args.context.now.elements.now (scope_of c.args.context.now.table.now c.args.visible.now) (kind_of (types_of c.args.context.now.table.now) c.args.kind) (expression_of c.args.expression.now)
    (option_map (worth_of (types_of c.args.context.now.table.now)) c.in_ok-operand.operand) c.len-first.result c.args.code.now.items c.emit.new.code.items c.settle.new.code.items first c.in_ok-operand.ensures.worth c.in_ok-operand.ensures.emitted) c.settle.ensures

pub emit_right-returns-clause-emitted : goal.emit_right-returns-clause-emitted
emit_right-returns-clause-emitted t c = λ before part n p.
    let types = types_of c.args.context.now.table.now in
    let second : c.len-second.result ≡ length c.lead.new.code.items = search rules in
    puts_right (globals_in c.args.context.now.table.now) c.args.context.now.elements.now (scope_of c.args.context.now.table.now c.args.visible.now) c.args.operator (option_map (worth_of types) c.args.left) (option_map (worth_of types) c.in_ok-operand.operand) (expression_of c.args.right.now)
    c.args.first c.len-second.result before c.args.code.now.items c.lead.new.code.items c.emit.new.code.items c.operate.new.code.items part n second c.in_ok-operand.ensures.worth p (c.in_ok-lead.ensures types) c.in_ok-operand.ensures.emitted c.in_ok-operate.ensures

pub emit_literal-returns-in-empty : goal.emit_literal-returns-in-empty
emit_literal-returns-in-empty t c =
    on_ok_weaker c.push_zeros.result (literal_none expression_of c.args.values.now (globals_in c.args.context.now.table.now) c.args.context.now.elements.now (scope_of c.args.context.now.table.now c.args.visible.now) (kind_of (types_of c.args.context.now.table.now) c.args.kind)
    c.args.code.now.items c.push_zeros.new.code.items (omega (arith, c.in-empty.len_below))) c.push_zeros.ensures

pub emit_literal-returns-in-len1-up : goal.emit_literal-returns-in-len1-up
emit_literal-returns-in-len1-up t c =
    let elements = c.args.context.now.elements.now in
    let scope = scope_of c.args.context.now.table.now c.args.visible.now in
    on_ok_weaker c.emit_fields.result (λ put. literal_some expression_of c.args.values.now (globals_in c.args.context.now.table.now) elements scope (kind_of (types_of c.args.context.now.table.now) c.args.kind)
    c.args.code.now.items c.emit_fields.new.code.items (omega (arith, c.in-len1-up.len_at_least)) (rw (c.fields_of-fields.ensures elements scope) at put)) c.emit_fields.ensures

-- ---- calls and operations on channels

pub emit-returns-in-Call-clause-worth : goal.emit-returns-in-Call-clause-worth
emit-returns-in-Call-clause-worth t c = rw (call_is _ _ _ _ c.in-Call.is) (c.emit_call.ensures.worth c.in-Call.field-2)

pub emit-returns-in-Call-clause-emitted : goal.emit-returns-in-Call-clause-emitted
emit-returns-in-Call-clause-emitted t c = rw (call_is _ _ _ _ c.in-Call.is) (rw c.as_slice-values-in-Call.ensures.value at (c.emit_call.ensures.emitted c.in-Call.field-2))

pub emit_receive-returns-clause-emitted : goal.emit_receive-returns-clause-emitted
emit_receive-returns-clause-emitted t c =
    on_ok_weaker c.emit_received.result (emits_receive (globals_in c.args.context.now.table.now) c.args.context.now.elements.now (scope_of c.args.context.now.table.now c.args.visible.now) (expression_of c.args.channel.now)
    (option_map (worth_of (types_of c.args.context.now.table.now)) c.in_ok-from.from.worth) c.args.code.now.items c.emit_channel.new.code.items c.emit_received.new.code.items c.in_ok-from.ensures.worth c.in_ok-from.ensures.emitted) c.emit_received.ensures.emitted

pub emit-returns-in_ok-put-in-Make-clause-emitted : goal.emit-returns-in_ok-put-in-Make-clause-emitted
emit-returns-in_ok-put-in-Make-clause-emitted t c =
    let kind = type_of c.deref-in-Make.result.now in
    let is : expression_of c.args.expression.now ≡ Make kind = make_is _ _ c.in-Make.is ∙ ap (λ n. Make (type_of n)) (sym c.deref-in-Make.ensures) in
    rw is (on_ok_weaker c.put_make.result (emits_make (globals_in c.args.context.now.table.now) c.args.context.now.elements.now (scope_of c.args.context.now.table.now c.args.visible.now) kind
    c.args.code.now.items c.put.new.code.items c.put_make.new.code.items c.in_ok-put-in-Make.ensures) c.put_make.ensures.put)

pub emit-returns-in_ok-push-in-MakeSized-clause-emitted : goal.emit-returns-in_ok-push-in-MakeSized-clause-emitted
emit-returns-in_ok-push-in-MakeSized-clause-emitted t c =
    let kind = type_of c.deref-in-MakeSized-2.result.now in
    let size = expression_of c.deref-in-MakeSized.result.now in
    let is : expression_of c.args.expression.now ≡ MakeSized kind size = make_sized_is _ _ _ c.in-MakeSized.is ∙ ap (λ n. MakeSized (type_of n) (expression_of c.in-MakeSized.size.value)) (sym c.deref-in-MakeSized-2.ensures) ∙ ap (λ n. MakeSized kind (expression_of n)) (sym c.deref-in-MakeSized.ensures) in
    rw is (on_ok_weaker c.put_make-in-MakeSized.result (emits_make_sized (globals_in c.args.context.now.table.now) c.args.context.now.elements.now (scope_of c.args.context.now.table.now c.args.visible.now) kind size
    c.args.code.now.items c.push.new.code.items c.put_make-in-MakeSized.new.code.items c.in_ok-push-in-MakeSized.ensures) c.put_make-in-MakeSized.ensures.put)

pub emit-returns-in_ok-emit-in-Length-clause-worth : goal.emit-returns-in_ok-emit-in-Length-clause-worth
emit-returns-in_ok-emit-in-Length-clause-worth t c = rw (length_is _ _ c.in-Length.is) (c.emit_measure.ensures.worth (types_of c.args.context.now.table.now))

pub emit-returns-in_ok-emit-in-Length-clause-emitted : goal.emit-returns-in_ok-emit-in-Length-clause-emitted
emit-returns-in_ok-emit-in-Length-clause-emitted t c =
    let channel = expression_of c.deref-in-Length.result.now in
    let is : expression_of c.args.expression.now ≡ Length channel = length_is _ _ c.in-Length.is ∙ ap (λ n. Length (expression_of n)) (sym c.deref-in-Length.ensures) in
    rw is (on_ok_weaker c.emit_measure.result (puts_then (emits (globals_in c.args.context.now.table.now) c.args.context.now.elements.now (scope_of c.args.context.now.table.now c.args.visible.now) channel) instrs.Len
    c.args.code.now.items c.emit-in-Length.new.code.items c.emit_measure.new.code.items c.in_ok-emit-in-Length.ensures.emitted) c.emit_measure.ensures.emitted)

pub emit-returns-in_ok-emit-in-Capacity-clause-worth : goal.emit-returns-in_ok-emit-in-Capacity-clause-worth
emit-returns-in_ok-emit-in-Capacity-clause-worth t c = rw (capacity_is _ _ c.in-Capacity.is) (c.emit_measure-in-Capacity.ensures.worth (types_of c.args.context.now.table.now))

pub emit-returns-in_ok-emit-in-Capacity-clause-emitted : goal.emit-returns-in_ok-emit-in-Capacity-clause-emitted
emit-returns-in_ok-emit-in-Capacity-clause-emitted t c =
    let channel = expression_of c.deref-in-Capacity.result.now in
    let is : expression_of c.args.expression.now ≡ Capacity channel = capacity_is _ _ c.in-Capacity.is ∙ ap (λ n. Capacity (expression_of n)) (sym c.deref-in-Capacity.ensures) in
    rw is (on_ok_weaker c.emit_measure-in-Capacity.result (puts_then (emits (globals_in c.args.context.now.table.now) c.args.context.now.elements.now (scope_of c.args.context.now.table.now c.args.visible.now) channel) instrs.Cap
    c.args.code.now.items c.emit-in-Capacity.new.code.items c.emit_measure-in-Capacity.new.code.items c.in_ok-emit-in-Capacity.ensures.emitted) c.emit_measure-in-Capacity.ensures.emitted)
