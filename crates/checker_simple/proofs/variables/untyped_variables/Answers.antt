use Rattle.std.proofs.Common.{rules, ◌≡◌, ◌+◌, sym, refl, arith, length, map, sum_by}
use Rattle.syntax.specs.Measures.{expression_size}
use Rattle.syntax.specs.View.{name_of, expression_of}
use Rattle.type_table.specs.Visible.{globals_in, scope_of}
use Rattle.typing_rules.specs.Operations.{given}
use Rattle.checker_simple.specs.Names.{names_at}
use Rattle.checker_simple.proofs.Wholes.{untyped-none, untyped-one, defined-after, names-count}
use Rattle.checker_simple.proofs.variables.untyped_variables.Goals as goal

pub returns-clause-none : goal.returns-clause-none
returns-clause-none c = rw (← c.as_slice.ensures.value) (λ violation.
    let g = globals_in c.args.table.now in
    let s = scope_of c.args.table.now c.args.visible.now in
    let names = map name_of c.args.names.now in
    let right = map expression_of c.as_slice.result.now in
    let refs = c.in_ok-all.all.items in
    let same : names_at refs ≡ names = c.in_ok-all.ensures in
    let all : names ≡ names_at c.as_slice-2.result.now = cc in
    let l : c.len.result ≡ length refs = omega arith in
    let n : c.len.result ≡ length names = names-count refs names c.len.result same l in
    let e : c.args.first + sum_by expression_size right + 1 ≡ c.in_ok-given.given.end + 1 = omega (arith, c.in_ok-given.ensures.end) in
    untyped-none g s c.args.first c.len.result (c.args.first + sum_by expression_size right + 1) names right violation n refl
    (c.in_ok-given.ensures.none violation)
    (c.in_ok-declare_given.ensures.none (c.args.first + sum_by expression_size right + 1) e names all (given g s c.len.result c.args.first right) (sym c.in_ok-given.ensures.given) violation))

pub returns-in_err-declare_given-clause-one : goal.returns-in_err-declare_given-clause-one
returns-in_err-declare_given-clause-one c = rw (← c.as_slice.ensures.value) (
    let g = globals_in c.args.table.now in
    let s = scope_of c.args.table.now c.args.visible.now in
    let names = map name_of c.args.names.now in
    let right = map expression_of c.as_slice.result.now in
    let refs = c.in_ok-all.all.items in
    let same : names_at refs ≡ names = c.in_ok-all.ensures in
    let all : names ≡ names_at c.as_slice-2.result.now = cc in
    let l : c.len.result ≡ length refs = omega arith in
    let n : c.len.result ≡ length names = names-count refs names c.len.result same l in
    let e : c.args.first + sum_by expression_size right + 1 ≡ c.in_ok-given.given.end + 1 = omega (arith, c.in_ok-given.ensures.end) in
    let h = untyped-one g s c.args.first c.len.result (c.args.first + sum_by expression_size right + 1) names right c.in_err-declare_given.field-0.0 n refl
    (c.in_err-declare_given.ensures.one (c.args.first + sum_by expression_size right + 1) e names all (given g s c.len.result c.args.first right) (sym c.in_ok-given.ensures.given)) in
    search (rules, h))

pub returns-clause-after : goal.returns-clause-after
returns-clause-after c = rw (← c.as_slice.ensures.value) (
    let g = globals_in c.args.table.now in
    let s = scope_of c.args.table.now c.args.visible.now in
    let names = map name_of c.args.names.now in
    let right = map expression_of c.as_slice.result.now in
    let refs = c.in_ok-all.all.items in
    let same : names_at refs ≡ names = c.in_ok-all.ensures in
    let all : names_at c.as_slice-2.result.now ≡ names = cc in
    let l : c.len.result ≡ length refs = omega arith in
    let n : c.len.result ≡ length names = names-count refs names c.len.result same l in
    defined-after g s (scope_of c.args.table.now c.declare_given.new.visible) c.args.first c.len.result names (names_at c.as_slice-2.result.now) right _ all n c.in_ok-given.ensures.given c.in_ok-declare_given.ensures.after)
