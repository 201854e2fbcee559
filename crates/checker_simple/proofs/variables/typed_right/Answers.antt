use Rattle.std.proofs.Common.{◌≡◌, ◌+◌, sym, refl, ap, arith, map, Some, option_map, sum_by}
use Rattle.syntax.specs.Measures.{expression_size}
use Rattle.syntax.specs.View.{expression_of, right_of}
use Rattle.type_table.specs.Views.{kind_of}
use Rattle.type_table.specs.Visible.{types_of, globals_in, scope_of}
use Rattle.typing_rules.specs.Operations.{given}
use Rattle.checker_simple.proofs.Wholes.{right-none}
use Rattle.checker_simple.proofs.variables.typed_right.Goals as goal

pub returns-in_ok-typed_given-in-Some-clause-none : goal.returns-in_ok-typed_given-in-Some-clause-none
returns-in_ok-typed_given-in-Some-clause-none c = λ violation.
    let g = globals_in c.args.table.now in
    let s = scope_of c.args.table.now c.args.visible.now in
    let kind = Some (kind_of (types_of c.args.table.now) c.args.kind) in
    let right = map expression_of c.as_slice.result.now in
    let is : option_map right_of c.args.right.now ≡ Some right = rw c.as_slice.ensures.value (ap (option_map right_of) c.in-Some.is) in
    let e : c.args.first + sum_by expression_size right + 1 ≡ c.in_ok-given-in-Some.given.end + 1 = omega (arith, c.in_ok-given-in-Some.ensures.end) in
    right-none g s c.args.names c.args.first (c.args.first + sum_by expression_size right + 1) kind (option_map right_of c.args.right.now) right violation is refl
    (c.in_ok-given-in-Some.ensures.none violation)
    (c.in_ok-typed_given-in-Some.ensures.none (c.args.first + sum_by expression_size right + 1) e (given g s c.args.names c.args.first right) (sym c.in_ok-given-in-Some.ensures.given) violation)
