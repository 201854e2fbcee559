use Rattle.std.proofs.Common.{rules, arith, ◌≡◌, ◌∙◌, refl, sym, ◌∷◌, ◌+◌, suc, inl, inr, Some, drop, map, option_map, length, sum_by, drop-cons}
use Rattle.std.proofs.lemmas.List.{length-map}
use Rattle.std.proofs.lemmas.Result.{err_from_is_err_and, IfOk-weaker, IfErr-weaker}
use Rattle.syntax.specs.declared.node.ExpressionNode.TheFolds.{the_lemmas}
use Rattle.syntax.specs.Measures.{expression_size, expressions_size}
use Rattle.syntax.specs.Tree.{Composite, Call, expressions}
use Rattle.syntax.specs.View.{name_of, expression_of}
use Rattle.type_table.specs.Views.{kind_of, field_in}
use Rattle.type_table.specs.Visible.{types_of, globals_in, scope_of}
use Rattle.typing_rules.specs.Worths.{literal_struct, worth}
use Rattle.checker_base.specs.Views.{known_kind, kinds_in}
use Rattle.typing_rules.specs.Calls.{NotDeclared, NoFunction, IsFunction, callee}
use Rattle.typing_rules.specs.Expressions.{ExpressionsHave, ValuesFail, nodes_of}
use Rattle.syntax.proofs.Nodes.{integer_is, named_is, parenthesized_is, selection_is, unary_is, binary_is, composite_is, call_is, make_sized_is}
use Rattle.checker_base.proofs.Literals.{is_none, is_some, next_kind, found_next, passed_next, fits_next, composite_has, composite_in, composite_none, size_of_values, comma_free, comma_violated, call_has, call_in, called_has, called_in}
use Rattle.checker_base.proofs.operand.+checked.Goals as goal

pub checked-returns-in-Composite-clause-worth : goal.checked-returns-in-Composite-clause-worth
checked-returns-in-Composite-clause-worth t c =
    rw (composite_is _ _ _ _ c.in-Composite.is) (IfOk-weaker c.composite.result _ _ (λ o every. every c.in-Composite.field-2) c.composite.ensures.worth)

pub checked-returns-in-Composite-clause-none : goal.checked-returns-in-Composite-clause-none
checked-returns-in-Composite-clause-none t c =
    let is : expression_of c.args.expression.now ≡ Composite (name_of c.in-Composite.name) (expressions (map expression_of c.in-Composite.values.items)) c.in-Composite.field-2 = composite_is _ _ _ _ c.in-Composite.is in
    comma_free c.composite.result (globals_in c.args.table.now) (scope_of c.args.table.now c.args.visible.now) c.args.first (λ any. Composite (name_of c.in-Composite.name) (expressions (map expression_of c.in-Composite.values.items)) any) c.in-Composite.field-2
    (expression_of c.args.expression.now) is (rw c.as_slice-in-Composite.ensures.value at c.composite.ensures.none)

pub checked-returns-in-Composite-clause-one : goal.checked-returns-in-Composite-clause-one
checked-returns-in-Composite-clause-one t c =
    let is : expression_of c.args.expression.now ≡ Composite (name_of c.in-Composite.name) (expressions (map expression_of c.in-Composite.values.items)) c.in-Composite.field-2 = composite_is _ _ _ _ c.in-Composite.is in
    comma_violated c.composite.result (globals_in c.args.table.now) (scope_of c.args.table.now c.args.visible.now) c.args.first (λ any. Composite (name_of c.in-Composite.name) (expressions (map expression_of c.in-Composite.values.items)) any) c.in-Composite.field-2
    (expression_of c.args.expression.now) is (rw c.as_slice-in-Composite.ensures.value at c.composite.ensures.one)

pub checked-returns-in-Integer-clause-worth : goal.checked-returns-in-Integer-clause-worth
checked-returns-in-Integer-clause-worth t c = rw (integer_is _ _ c.in-Integer.is) (IfOk-weaker c.integer.result _ _ (λ o every. every (types_of c.args.table.now)) c.integer.ensures.worth)

pub checked-returns-in-Integer-clause-end : goal.checked-returns-in-Integer-clause-end
checked-returns-in-Integer-clause-end t c = rw (integer_is _ _ c.in-Integer.is) (IfOk-weaker c.integer.result _ _ (λ o is. omega (arith, is)) c.integer.ensures.node)

pub checked-returns-in-Integer-clause-none : goal.checked-returns-in-Integer-clause-none
checked-returns-in-Integer-clause-none t c = rw (integer_is _ _ c.in-Integer.is) (IfOk-weaker c.integer.result _ _ (λ o some violation has. some has.0) c.integer.ensures.none)

pub checked-returns-in-Integer-clause-one : goal.checked-returns-in-Integer-clause-one
checked-returns-in-Integer-clause-one t c = rw (integer_is _ _ c.in-Integer.is) c.integer.ensures.one

pub checked-returns-in-Named-clause-worth : goal.checked-returns-in-Named-clause-worth
checked-returns-in-Named-clause-worth t c = rw (named_is _ _ c.in-Named.is) c.named.ensures.worth

pub checked-returns-in-Named-clause-end : goal.checked-returns-in-Named-clause-end
checked-returns-in-Named-clause-end t c = rw (named_is _ _ c.in-Named.is) (IfOk-weaker c.named.result _ _ (λ o is. omega (arith, is)) c.named.ensures.node)

pub checked-returns-in-Named-clause-none : goal.checked-returns-in-Named-clause-none
checked-returns-in-Named-clause-none t c = rw (named_is _ _ c.in-Named.is) c.named.ensures.none

pub checked-returns-in-Named-clause-one : goal.checked-returns-in-Named-clause-one
checked-returns-in-Named-clause-one t c = rw (named_is _ _ c.in-Named.is) c.named.ensures.one

pub checked-returns-in_ok-inner-in-Parenthesized-clause-worth : goal.checked-returns-in_ok-inner-in-Parenthesized-clause-worth
checked-returns-in_ok-inner-in-Parenthesized-clause-worth t c = rw (parenthesized_is _ _ c.in-Parenthesized.is, ← c.deref.ensures) c.in_ok-inner-in-Parenthesized.ensures.worth

pub checked-returns-in_ok-inner-in-Parenthesized-clause-none : goal.checked-returns-in_ok-inner-in-Parenthesized-clause-none
checked-returns-in_ok-inner-in-Parenthesized-clause-none t c = rw (parenthesized_is _ _ c.in-Parenthesized.is, ← c.deref.ensures) c.in_ok-inner-in-Parenthesized.ensures.none

pub checked-returns-in_ok-inner-in-Parenthesized-clause-end : goal.checked-returns-in_ok-inner-in-Parenthesized-clause-end
checked-returns-in_ok-inner-in-Parenthesized-clause-end t c = rw (parenthesized_is _ _ c.in-Parenthesized.is, ← c.deref.ensures) (omega (arith, c.in_ok-inner-in-Parenthesized.ensures.end))

pub checked-returns-in_err-inner-in-Parenthesized-clause-one : goal.checked-returns-in_err-inner-in-Parenthesized-clause-one
checked-returns-in_err-inner-in-Parenthesized-clause-one t c =
    let p = err_from_is_err_and c.from_residual.result c.from_residual.ensures.1 in
    rw (p.1, p.2, parenthesized_is _ _ c.in-Parenthesized.is, ← c.deref.ensures) c.in_err-inner-in-Parenthesized.ensures.one

pub checked-returns-in_err-whole-in-Selection-clause-one : goal.checked-returns-in_err-whole-in-Selection-clause-one
checked-returns-in_err-whole-in-Selection-clause-one t c =
    let p = err_from_is_err_and c.from_residual-in_err-whole-in-Selection.result c.from_residual-in_err-whole-in-Selection.ensures.1 in
    rw (p.1, p.2, selection_is _ _ _ c.in-Selection.is, ← c.deref-in-Selection.ensures) (inl c.in_err-whole-in-Selection.ensures.one)

pub checked-returns-in_ok-whole-in-Selection-clause-worth : goal.checked-returns-in_ok-whole-in-Selection-clause-worth
checked-returns-in_ok-whole-in-Selection-clause-worth t c = rw (selection_is _ _ _ c.in-Selection.is, ← c.deref-in-Selection.ensures, c.in_ok-whole-in-Selection.ensures.worth, ← c.as_slice.ensures.value) c.selection.ensures.worth

pub checked-returns-in_ok-whole-in-Selection-clause-end : goal.checked-returns-in_ok-whole-in-Selection-clause-end
checked-returns-in_ok-whole-in-Selection-clause-end t c = rw (selection_is _ _ _ c.in-Selection.is, ← c.deref-in-Selection.ensures) (IfOk-weaker c.selection.result _ _ (λ o is. omega (arith, is, c.in_ok-whole-in-Selection.ensures.end)) c.selection.ensures.node)

pub checked-returns-in_ok-whole-in-Selection-clause-none : goal.checked-returns-in_ok-whole-in-Selection-clause-none
checked-returns-in_ok-whole-in-Selection-clause-none t c =
    rw (selection_is _ _ _ c.in-Selection.is, ← c.deref-in-Selection.ensures, ← c.as_slice.ensures.value) (IfOk-weaker c.selection.result _ _ (λ o free violation has. elim has [ inl bad ↦ c.in_ok-whole-in-Selection.ensures.none violation bad | inr bad ↦ free _ c.in_ok-whole-in-Selection.ensures.worth _ _ violation bad ]) c.selection.ensures.none)

pub checked-returns-in_ok-whole-in-Selection-clause-one : goal.checked-returns-in_ok-whole-in-Selection-clause-one
checked-returns-in_ok-whole-in-Selection-clause-one t c =
    rw (selection_is _ _ _ c.in-Selection.is, ← c.deref-in-Selection.ensures, ← c.as_slice.ensures.value) (IfErr-weaker c.selection.result _ _ (λ violation has. inr (has _ c.in_ok-whole-in-Selection.ensures.worth (nodes_of c.args.first (expression_of c.deref-in-Selection.result.now)) c.in_ok-whole-in-Selection.ensures.first (c.args.first + (expression_size (expression_of c.deref-in-Selection.result.now) + 1)) (omega (arith, c.in_ok-whole-in-Selection.ensures.end)))) c.selection.ensures.one)

pub checked-returns-in-Composite-clause-end : goal.checked-returns-in-Composite-clause-end
checked-returns-in-Composite-clause-end t c = rw (composite_is _ _ _ _ c.in-Composite.is, ← c.as_slice-in-Composite.ensures.value) (IfOk-weaker c.composite.result _ _ (λ o is. omega (arith, is)) c.composite.ensures.end)

pub checked-returns-in_err-operand-in-Unary-clause-one : goal.checked-returns-in_err-operand-in-Unary-clause-one
checked-returns-in_err-operand-in-Unary-clause-one t c =
    let p = err_from_is_err_and c.from_residual-in_err-operand-in-Unary.result c.from_residual-in_err-operand-in-Unary.ensures.1 in
    rw (p.1, p.2, unary_is _ _ _ c.in-Unary.is, ← c.deref-in-Unary.ensures) (inl c.in_err-operand-in-Unary.ensures.one)

pub checked-returns-in_ok-operand-in-Unary-clause-worth : goal.checked-returns-in_ok-operand-in-Unary-clause-worth
checked-returns-in_ok-operand-in-Unary-clause-worth t c = rw (unary_is _ _ _ c.in-Unary.is, ← c.deref-in-Unary.ensures, c.in_ok-operand-in-Unary.ensures.worth) (IfOk-weaker c.before-in-Unary.result _ _ (λ o every. every (types_of c.args.table.now)) c.before-in-Unary.ensures.worth)

pub checked-returns-in_ok-operand-in-Unary-clause-end : goal.checked-returns-in_ok-operand-in-Unary-clause-end
checked-returns-in_ok-operand-in-Unary-clause-end t c = rw (unary_is _ _ _ c.in-Unary.is, ← c.deref-in-Unary.ensures) (IfOk-weaker c.before-in-Unary.result _ _ (λ o is. omega (arith, is, c.in_ok-operand-in-Unary.ensures.end)) c.before-in-Unary.ensures.node)

pub checked-returns-in_ok-operand-in-Unary-clause-none : goal.checked-returns-in_ok-operand-in-Unary-clause-none
checked-returns-in_ok-operand-in-Unary-clause-none t c =
    rw (unary_is _ _ _ c.in-Unary.is, ← c.deref-in-Unary.ensures) (IfOk-weaker c.before-in-Unary.result _ _ (λ o free violation has. elim has [ inl bad ↦ c.in_ok-operand-in-Unary.ensures.none violation bad | inr bad ↦ free (types_of c.args.table.now) _ c.in_ok-operand-in-Unary.ensures.worth _ _ violation bad ]) c.before-in-Unary.ensures.none)

pub checked-returns-in_ok-operand-in-Unary-clause-one : goal.checked-returns-in_ok-operand-in-Unary-clause-one
checked-returns-in_ok-operand-in-Unary-clause-one t c =
    rw (unary_is _ _ _ c.in-Unary.is, ← c.deref-in-Unary.ensures) (IfErr-weaker c.before-in-Unary.result _ _ (λ violation has. inr (has (types_of c.args.table.now) _ c.in_ok-operand-in-Unary.ensures.worth (nodes_of c.args.first (expression_of c.deref-in-Unary.result.now)) c.in_ok-operand-in-Unary.ensures.first c.in_ok-operand-in-Unary.ensures.end (c.args.first + (expression_size (expression_of c.deref-in-Unary.result.now) + 1)) (omega (arith, c.in_ok-operand-in-Unary.ensures.end)))) c.before-in-Unary.ensures.one)

pub checked-returns-in_err-left-in-Binary-clause-one : goal.checked-returns-in_err-left-in-Binary-clause-one
checked-returns-in_err-left-in-Binary-clause-one t c =
    let p = err_from_is_err_and c.from_residual-in_err-left-in-Binary.result c.from_residual-in_err-left-in-Binary.ensures.1 in
    rw (p.1, p.2, binary_is _ _ _ _ c.in-Binary.is, ← c.deref-in-Binary.ensures) (inl c.in_err-left-in-Binary.ensures.one)

pub checked-returns-in_err-right-in-Binary-clause-one : goal.checked-returns-in_err-right-in-Binary-clause-one
checked-returns-in_err-right-in-Binary-clause-one t c =
    let p = err_from_is_err_and c.from_residual-in_err-right-in-Binary.result c.from_residual-in_err-right-in-Binary.ensures.1 in
    rw (p.1, p.2, binary_is _ _ _ _ c.in-Binary.is, ← c.deref-in-Binary.ensures, ← c.deref-in-Binary-2.ensures) (inr (inl (rw (← c.in_ok-left-in-Binary.ensures.end) at c.in_err-right-in-Binary.ensures.one)))

pub checked-returns-in_ok-right-in-Binary-clause-worth : goal.checked-returns-in_ok-right-in-Binary-clause-worth
checked-returns-in_ok-right-in-Binary-clause-worth t c = rw (binary_is _ _ _ _ c.in-Binary.is, ← c.deref-in-Binary.ensures, ← c.deref-in-Binary-2.ensures, c.in_ok-left-in-Binary.ensures.worth, c.in_ok-right-in-Binary.ensures.worth) c.between.ensures.worth

pub checked-returns-in_ok-right-in-Binary-clause-end : goal.checked-returns-in_ok-right-in-Binary-clause-end
checked-returns-in_ok-right-in-Binary-clause-end t c = rw (binary_is _ _ _ _ c.in-Binary.is, ← c.deref-in-Binary.ensures, ← c.deref-in-Binary-2.ensures) (IfOk-weaker c.between.result _ _ (λ o is. omega (arith, is, c.in_ok-left-in-Binary.ensures.end, c.in_ok-right-in-Binary.ensures.end)) c.between.ensures.node)

pub checked-returns-in_ok-right-in-Binary-clause-none : goal.checked-returns-in_ok-right-in-Binary-clause-none
checked-returns-in_ok-right-in-Binary-clause-none t c = search (rules, the_lemmas)

pub checked-returns-in_ok-right-in-Binary-clause-one : goal.checked-returns-in_ok-right-in-Binary-clause-one
checked-returns-in_ok-right-in-Binary-clause-one t c =
    let a = (expression_of c.deref-in-Binary.result.now) in
    let b = (expression_of c.deref-in-Binary-2.result.now) in
    rw (binary_is _ _ _ _ c.in-Binary.is, ← c.deref-in-Binary.ensures, ← c.deref-in-Binary-2.ensures) (IfErr-weaker c.between.result _ _ (λ violation has. inr (inr (has _ _ c.in_ok-left-in-Binary.ensures.worth c.in_ok-right-in-Binary.ensures.worth (nodes_of c.args.first a) (nodes_of (c.args.first + expression_size a) b) c.in_ok-left-in-Binary.ensures.first c.in_ok-left-in-Binary.ensures.end (c.in_ok-left-in-Binary.ensures.end ∙ c.in_ok-right-in-Binary.ensures.first) (omega (arith, c.in_ok-left-in-Binary.ensures.end, c.in_ok-right-in-Binary.ensures.end))
    (c.args.first + (expression_size a + expression_size b + 1)) (omega (arith, c.in_ok-left-in-Binary.ensures.end, c.in_ok-right-in-Binary.ensures.end))))) c.between.ensures.one)

pub checked-checked-requires : goal.checked-checked-requires
checked-checked-requires t c =
    let small = rw (parenthesized_is _ _ c.in-Parenthesized.is, ← c.deref.ensures) at c.requires.small in
    (search (rules, the_lemmas), omega (arith, small))

pub checked-checked-requires-in-Selection : goal.checked-checked-requires-in-Selection
checked-checked-requires-in-Selection t c =
    let small = rw (selection_is _ _ _ c.in-Selection.is, ← c.deref-in-Selection.ensures) at c.requires.small in
    (search (rules, the_lemmas), omega (arith, small))

pub checked-selection-requires : goal.checked-selection-requires
checked-selection-requires t c =
    let small = rw (selection_is _ _ _ c.in-Selection.is, ← c.deref-in-Selection.ensures) at c.requires.small in
    record { small = omega (arith, small, c.in_ok-whole-in-Selection.ensures.end) }

pub checked-composite-requires : goal.checked-composite-requires
checked-composite-requires t c =
    let small = rw (composite_is _ _ _ _ c.in-Composite.is, ← c.as_slice-in-Composite.ensures.value) at c.requires.small in
    (search (rules, the_lemmas), omega (arith, small))

pub checked-checked-requires-in-Unary : goal.checked-checked-requires-in-Unary
checked-checked-requires-in-Unary t c =
    let small = rw (unary_is _ _ _ c.in-Unary.is, ← c.deref-in-Unary.ensures) at c.requires.small in
    (search (rules, the_lemmas), omega (arith, small))

pub checked-before-requires-clause-small : goal.checked-before-requires-clause-small
checked-before-requires-clause-small t c =
    let small = rw (unary_is _ _ _ c.in-Unary.is, ← c.deref-in-Unary.ensures) at c.requires.small in
    omega (arith, small, c.in_ok-operand-in-Unary.ensures.end)

pub checked-checked-requires-in-Binary : goal.checked-checked-requires-in-Binary
checked-checked-requires-in-Binary t c =
    let small = rw (binary_is _ _ _ _ c.in-Binary.is, ← c.deref-in-Binary.ensures) at c.requires.small in
    (search (rules, the_lemmas), omega (arith, small))

pub checked-checked-requires-in-Binary-2 : goal.checked-checked-requires-in-Binary-2
checked-checked-requires-in-Binary-2 t c =
    let small = rw (binary_is _ _ _ _ c.in-Binary.is, ← c.deref-in-Binary.ensures, ← c.deref-in-Binary-2.ensures) at c.requires.small in
    (search (rules, the_lemmas), omega (arith, small, c.in_ok-left-in-Binary.ensures.end))

pub checked-between-requires-clause-small : goal.checked-between-requires-clause-small
checked-between-requires-clause-small t c =
    let small = rw (binary_is _ _ _ _ c.in-Binary.is, ← c.deref-in-Binary.ensures, ← c.deref-in-Binary-2.ensures) at c.requires.small in
    omega (arith, small, c.in_ok-left-in-Binary.ensures.end, c.in_ok-right-in-Binary.ensures.end)

pub checked-overflow_add-result : goal.checked-overflow_add-result
checked-overflow_add-result t c = search (rules, the_lemmas)

pub checked-overflow_add-left : goal.checked-overflow_add-left
checked-overflow_add-left t c = search (rules, the_lemmas)

pub checked-returns-in-Call-clause-worth : goal.checked-returns-in-Call-clause-worth
checked-returns-in-Call-clause-worth t c =
    rw (call_is _ _ _ _ c.in-Call.is) (IfOk-weaker c.called.result _ _ (λ o every. every c.in-Call.field-2) c.called.ensures.worth)

pub checked-returns-in-Call-clause-none : goal.checked-returns-in-Call-clause-none
checked-returns-in-Call-clause-none t c =
    let is : expression_of c.args.expression.now ≡ Call (name_of c.in-Call.function) (expressions (map expression_of c.in-Call.values.items)) c.in-Call.field-2 = call_is _ _ _ _ c.in-Call.is in
    comma_free c.called.result (globals_in c.args.table.now) (scope_of c.args.table.now c.args.visible.now) c.args.first (λ any. Call (name_of c.in-Call.function) (expressions (map expression_of c.in-Call.values.items)) any) c.in-Call.field-2
    (expression_of c.args.expression.now) is (rw c.as_slice-in-Call.ensures.value at c.called.ensures.none)

pub checked-returns-in-Call-clause-one : goal.checked-returns-in-Call-clause-one
checked-returns-in-Call-clause-one t c =
    let is : expression_of c.args.expression.now ≡ Call (name_of c.in-Call.function) (expressions (map expression_of c.in-Call.values.items)) c.in-Call.field-2 = call_is _ _ _ _ c.in-Call.is in
    comma_violated c.called.result (globals_in c.args.table.now) (scope_of c.args.table.now c.args.visible.now) c.args.first (λ any. Call (name_of c.in-Call.function) (expressions (map expression_of c.in-Call.values.items)) any) c.in-Call.field-2
    (expression_of c.args.expression.now) is (rw c.as_slice-in-Call.ensures.value at c.called.ensures.one)

pub checked-make_sized-requires : goal.checked-make_sized-requires
checked-make_sized-requires t c =
    let small = rw (make_sized_is _ _ _ c.in-MakeSized.is, ← c.deref-in-MakeSized.ensures, ← c.deref-in-MakeSized-2.ensures) at c.requires.small in
    (search (rules, the_lemmas), omega (arith, small))

pub make_sized-checked-requires : goal.make_sized-checked-requires
make_sized-checked-requires t c = (search (rules, the_lemmas), omega (arith, c.requires.small, c.type_size.ensures))

pub composite-returns-in_err-node-clause-one : goal.composite-returns-in_err-node-clause-one
composite-returns-in_err-node-clause-one t c =
    let p = err_from_is_err_and c.from_residual.result c.from_residual.ensures.1 in
    let globals = globals_in c.args.table.now in
    let scope = scope_of c.args.table.now c.args.visible.now in
    let a = c.as_slice.ensures.value in
    let b = c.literal_struct.ensures in
    let d = c.in-Some.is in
    let is : literal_struct globals scope (name_of c.args.name.now) ≡ Some c.in-Some.number = cc in
    let values = map expression_of c.args.values.now in
    let some : length values ≡ 0 → ⊥ = simp length-map (is_some (length c.args.values.now) (sym c.is_empty.ensures ∙ c.if-is_empty.false)) in
    rw (p.1, p.2) (λ trailing. composite_has globals scope c.args.first c.in-Some.number (name_of c.args.name.now) values (map (field_in (types_of c.args.table.now)) c.fields_at.result.now) trailing c.in_err-node.field-0.0 is c.fields_at.ensures some
    (c.in_err-node.ensures.one (c.args.first + (expressions_size (expressions values) + 1)) (omega arith)))

pub composite-returns-clause-none : goal.composite-returns-clause-none
composite-returns-clause-none t c =
    let globals = globals_in c.args.table.now in
    let scope = scope_of c.args.table.now c.args.visible.now in
    let a = c.as_slice.ensures.value in
    let b = c.literal_struct.ensures in
    let d = c.in-Some.is in
    let is : literal_struct globals scope (name_of c.args.name.now) ≡ Some c.in-Some.number = cc in
    let values = map expression_of c.args.values.now in
    λ trailing violation has. elim (composite_in globals scope c.args.first c.in-Some.number (name_of c.args.name.now) values (map (field_in (types_of c.args.table.now)) c.fields_at.result.now) trailing violation is c.fields_at.ensures has) [
      | inl bad ↦ c.in_ok-node.ensures.none violation bad
      | inr bad ↦ c.in_ok-node.ensures.fits (c.args.first + (expressions_size (expressions values) + 1)) violation bad
    ]

pub composite-returns-then-is_empty-clause-none : goal.composite-returns-then-is_empty-clause-none
composite-returns-then-is_empty-clause-none t c =
    let globals = globals_in c.args.table.now in
    let scope = scope_of c.args.table.now c.args.visible.now in
    let a = c.as_slice.ensures.value in
    let b = c.literal_struct.ensures in
    let d = c.in-Some.is in
    let is : literal_struct globals scope (name_of c.args.name.now) ≡ Some c.in-Some.number = cc in
    let values = map expression_of c.args.values.now in
    let none : length values ≡ 0 = simp length-map (is_none (length c.args.values.now) (sym c.is_empty.ensures ∙ c.if-is_empty.true)) in
    λ trailing violation has. composite_none globals scope c.args.first c.in-Some.number (name_of c.args.name.now) values trailing violation is none has

pub fit-loop-number-preserved : goal.fit-loop-number-preserved
fit-loop-number-preserved t c =
    let globals = globals_in c.args.table.now in
    let scope = scope_of c.args.table.now c.args.visible.now in
    let types = types_of c.args.table.now in
    let value = expression_of c.index-values-number.result in
    let left = drop (suc c.loop-number.number) c.args.values.now in
    let rest = map expression_of left in
    let kinds = kinds_in types c.args.wanted in
    let more : c.loop-number.number + 1 ≡ suc c.loop-number.number = omega arith in
    let cut : drop c.loop-number.number c.args.values.now ≡ c.index-values-number.result ∷ left = rw c.index-values-number.is (drop-cons c.args.values.now c.loop-number.number _ c.loop-number-test.true) in
    let next : c.loop-number.end + expression_size value ≡ c.in_ok-operand.operand.node + 1 = c.in_ok-operand.ensures.end in
    let has = ExpressionsHave globals scope c.args.first (expressions (map expression_of c.args.values.now)) in
    let found = rw cut at c.loop-number.invariant.found in
    let passed = rw cut at c.loop-number.invariant.passed in
    let fits = rw cut at c.loop-number.invariant.fits in
    let end = rw cut at c.loop-number.invariant.end in
    let begins = rw (← c.kind_at.ensures types) at (next_kind kinds c.loop-number.number) in
    record {
      end = rw more (omega arith);
      found = rw (more, ← next) (found_next globals scope has c.loop-number.end value rest found);
      passed = rw (more, ← next) (passed_next globals scope has c.loop-number.end value rest passed c.in_ok-operand.ensures.none);
      fits = rw (more, ← next) (fits_next globals scope (ValuesFail globals scope c.args.first (map expression_of c.args.values.now) kinds) c.loop-number.end value rest (drop c.loop-number.number kinds) (drop (suc c.loop-number.number) kinds) (option_map (kind_of types) c.kind_at.result) c.loop-number.misfit c.first_misfit-misfit.result begins fits c.first_misfit-misfit.ensures.known
          (λ none. c.first_misfit-misfit.ensures.new none (worth globals scope value) c.in_ok-operand.ensures.worth (nodes_of c.loop-number.end value) c.in_ok-operand.ensures.first next));
    }

pub call-returns-in_err-node-in-Function-clause-one : goal.call-returns-in_err-node-in-Function-clause-one
call-returns-in_err-node-in-Function-clause-one t c =
    let p = err_from_is_err_and c.from_residual.result c.from_residual.ensures.1 in
    let globals = globals_in c.args.table.now in
    let scope = scope_of c.args.table.now c.args.visible.now in
    let is : callee globals scope (name_of c.args.function.now) ≡ IsFunction c.in-Function.number = sym (rw (c.in-Function.is, c.as_slice.ensures.value) at c.callee_named.ensures) in
    let values = map expression_of c.args.values.now in
    let end = c.args.first + expressions_size (expressions values) + 1 in
    rw (p.1, p.2) (call_has globals scope c.args.first c.in-Function.number end (name_of c.args.function.now) values (map (known_kind (types_of c.args.table.now)) c.parameters_of.result.now) c.in_err-node-in-Function.field-0.0 is c.parameters_of.ensures (omega (arith, size_of_values values))
    (c.in_err-node-in-Function.ensures.one end refl))

pub call-returns-in-NotDeclared-clause-one : goal.call-returns-in-NotDeclared-clause-one
call-returns-in-NotDeclared-clause-one t c =
    let globals = globals_in c.args.table.now in
    let scope = scope_of c.args.table.now c.args.visible.now in
    let values = map expression_of c.args.values.now in
    let is : callee globals scope (name_of c.args.function.now) ≡ NotDeclared = sym (rw (c.in-NotDeclared.is, c.as_slice.ensures.value) at c.callee_named.ensures) in
    inr (rw is (refl, omega (arith, c.values_size.ensures, size_of_values values)))

pub call-returns-in-NoFunction-clause-one : goal.call-returns-in-NoFunction-clause-one
call-returns-in-NoFunction-clause-one t c =
    let globals = globals_in c.args.table.now in
    let scope = scope_of c.args.table.now c.args.visible.now in
    let values = map expression_of c.args.values.now in
    let is : callee globals scope (name_of c.args.function.now) ≡ NoFunction = sym (rw (c.in-NoFunction.is, c.as_slice.ensures.value) at c.callee_named.ensures) in
    inr (rw is (refl, omega (arith, c.values_size-in-NoFunction.ensures, size_of_values values)))

pub call-returns-in_ok-node-in-Function-clause-none : goal.call-returns-in_ok-node-in-Function-clause-none
call-returns-in_ok-node-in-Function-clause-none t c =
    let globals = globals_in c.args.table.now in
    let scope = scope_of c.args.table.now c.args.visible.now in
    let values = map expression_of c.args.values.now in
    let is : callee globals scope (name_of c.args.function.now) ≡ IsFunction c.in-Function.number = sym (rw (c.in-Function.is, c.as_slice.ensures.value) at c.callee_named.ensures) in
    λ violation has. elim (call_in globals scope c.args.first c.in-Function.number (name_of c.args.function.now) values (map (known_kind (types_of c.args.table.now)) c.parameters_of.result.now) violation is c.parameters_of.ensures has) [
      | inl bad ↦ c.in_ok-node-in-Function.ensures.none violation bad
      | inr bad ↦ c.in_ok-node-in-Function.ensures.fits (c.args.first + sum_by expression_size values + 1) violation bad
    ]

pub called-returns-in_err-called-clause-one : goal.called-returns-in_err-called-clause-one
called-returns-in_err-called-clause-one t c =
    let p = err_from_is_err_and c.from_residual.result c.from_residual.ensures.1 in
    rw (p.1, p.2) (λ trailing. called_has (globals_in c.args.table.now) (scope_of c.args.table.now c.args.visible.now) c.args.first (name_of c.args.function.now) (map expression_of c.args.values.now) trailing c.in_err-called.field-0.0 c.in_err-called.ensures.one)

pub called-returns-clause-none : goal.called-returns-clause-none
called-returns-clause-none t c =
    let globals = globals_in c.args.table.now in
    let scope = scope_of c.args.table.now c.args.visible.now in
    let values = map expression_of c.args.values.now in
    IfOk-weaker c.call_value.result _ _ (λ o free trailing violation has. elim (called_in globals scope c.args.first c.in_ok-called.called.function (name_of c.args.function.now) values trailing violation c.in_ok-called.ensures.function has) [
      | inl bad ↦ c.in_ok-called.ensures.none violation bad
      | inr bad ↦ free (c.args.first + (expressions_size (expressions values) + 1)) violation bad
    ]) c.call_value.ensures.none
