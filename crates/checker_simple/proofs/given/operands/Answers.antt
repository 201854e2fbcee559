use Rattle.std.proofs.Common.{◌≡◌, [], ◌∷◌, ◌+◌, suc, inl, map, drop, is_ok, ap, refl, sym, ◌∙◌, arith, drop-cons}
use Rattle.std.proofs.ResultArms.{chosen}
use Rattle.std.proofs.lemmas.List.{append-nil, drop_all}
use Rattle.std.proofs.lemmas.List.Sums.{sum_by-cons}
use Rattle.std.proofs.lemmas.Result.{err_from_is_err_and}
use Rattle.syntax.specs.Measures.{expression_size}
use Rattle.syntax.specs.Tree.{expressions}
use Rattle.syntax.specs.View.{expression_of}
use Rattle.type_table.specs.Visible.{types_of, globals_in, scope_of}
use Rattle.typing_rules.specs.declared.violation.Violation.{Violation}
use Rattle.typing_rules.specs.Expressions.{ExpressionsHave}
use Rattle.checker_base.proofs.Literals.{found_next, passed_next}
use Rattle.checker_simple.specs.Givens.{given_of}
use Rattle.checker_simple.proofs.Givens.{given_next}
use Rattle.checker_simple.proofs.given.operands.Goals as goal

pub loop-value-preserved : goal.loop-value-preserved
loop-value-preserved c =
    let globals = globals_in c.args.table.now in
    let scope = scope_of c.args.table.now c.args.visible.now in
    let value = expression_of c.value-item.result in
    let left = drop (suc c.loop-value.value-index) c.args.values.now in
    let rest = map expression_of left in
    let more : c.loop-value.value-index + 1 ≡ suc c.loop-value.value-index = omega arith in
    let cut : drop c.loop-value.value-index c.args.values.now ≡ c.value-item.result ∷ left = rw c.value-item.is (drop-cons c.args.values.now c.loop-value.value-index _ c.loop-value-test.true) in
    let next : c.loop-value.end + expression_size value ≡ c.in_ok-operand.operand.node + 1 = c.in_ok-operand.ensures.end in
    let pushed = chosen _ _ _ _ c.push.ensures.items (ap is_ok c.in_ok-push.was) in
    let has = ExpressionsHave globals scope c.args.first (expressions (map expression_of c.args.values.now)) in
    record {
      end = rw more (omega (arith, sum_by-cons expression_size value rest, next, rw cut at c.loop-value.invariant.end));
      given = rw (more, pushed, ← next) (given_next globals scope (types_of c.args.table.now) c.loop-value.all.items c.in_ok-operand.operand c.loop-value.end value rest _ c.in_ok-operand.ensures.worth c.in_ok-operand.ensures.first next (rw cut at c.loop-value.invariant.given));
      found = rw (more, ← next) (found_next globals scope has c.loop-value.end value rest (rw cut at c.loop-value.invariant.found));
      passed = rw (more, ← next) (passed_next globals scope has c.loop-value.end value rest (rw cut at c.loop-value.invariant.passed) c.in_ok-operand.ensures.none);
    }

pub loop-value-init : goal.loop-value-init
loop-value-init c =
    let none = c.new-all.ensures.items in
    record { end = refl; given = rw none refl; found = λ violation has. has; passed = λ violation has. has }

pub checked-requires : goal.checked-requires
checked-requires c =
    let left = drop (suc c.loop-value.value-index) c.args.values.now in
    let cut : drop c.loop-value.value-index c.args.values.now ≡ c.value-item.result ∷ left = rw c.value-item.is (drop-cons c.args.values.now c.loop-value.value-index _ c.loop-value-test.true) in
    record { small = omega (arith, sum_by-cons expression_size (expression_of c.value-item.result) (map expression_of left), rw cut at c.loop-value.invariant.end, c.requires.small) }

pub overflow_add-end : goal.overflow_add-end
overflow_add-end c =
    let left = drop (suc c.loop-value.value-index) c.args.values.now in
    let cut : drop c.loop-value.value-index c.args.values.now ≡ c.value-item.result ∷ left = rw c.value-item.is (drop-cons c.args.values.now c.loop-value.value-index _ c.loop-value-test.true) in
    omega (arith, sum_by-cons expression_size (expression_of c.value-item.result) (map expression_of left), rw cut at c.loop-value.invariant.end, c.in_ok-operand.ensures.end, c.requires.small)

pub returns-in_err-operand-clause-one : goal.returns-in_err-operand-clause-one
returns-in_err-operand-clause-one c =
    let globals = globals_in c.args.table.now in
    let scope = scope_of c.args.table.now c.args.visible.now in
    let value = expression_of c.value-item.result in
    let left = drop (suc c.loop-value.value-index) c.args.values.now in
    let cut : drop c.loop-value.value-index c.args.values.now ≡ c.value-item.result ∷ left = rw c.value-item.is (drop-cons c.args.values.now c.loop-value.value-index _ c.loop-value-test.true) in
    let found : (violation : Violation) → ExpressionsHave globals scope c.loop-value.end (expressions (value ∷ map expression_of left)) violation → ExpressionsHave globals scope c.args.first (expressions (map expression_of c.args.values.now)) violation = rw cut at c.loop-value.invariant.found in
    let p = err_from_is_err_and c.from_residual.result c.from_residual.ensures.1 in
    rw (p.1, p.2) (found c.in_err-operand.field-0.0 (inl c.in_err-operand.ensures.one))

pub returns-clause-end : goal.returns-clause-end
returns-clause-end c =
    let none : drop c.loop-value.value-index c.args.values.now ≡ [] = drop_all c.loop-value.value-index c.args.values.now c.loop-value-test.false in
    omega (arith, rw none at c.loop-value.invariant.end)

pub returns-clause-given : goal.returns-clause-given
returns-clause-given c =
    let none : drop c.loop-value.value-index c.args.values.now ≡ [] = drop_all c.loop-value.value-index c.args.values.now c.loop-value-test.false in
    sym (append-nil (map (given_of (types_of c.args.table.now)) c.loop-value.all.items)) ∙ (rw none at c.loop-value.invariant.given)

pub returns-clause-none : goal.returns-clause-none
returns-clause-none c =
    let none : drop c.loop-value.value-index c.args.values.now ≡ [] = drop_all c.loop-value.value-index c.args.values.now c.loop-value-test.false in
    λ violation has. rw none at (c.loop-value.invariant.passed violation has)
