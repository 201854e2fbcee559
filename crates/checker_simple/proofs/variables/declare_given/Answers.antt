use Rattle.std.proofs.Common.{◌≡◌, refl, length, map, arith}
use Rattle.std.proofs.lemmas.List.{length-map}
use Rattle.std.proofs.lemmas.Result.{IfOk-weaker, IfErr-weaker}
use Rattle.type_table.specs.Visible.{types_of, scope_of}
use Rattle.checker_simple.specs.Givens.{given_of}
use Rattle.checker_simple.specs.Names.{names_at}
use Rattle.checker_simple.proofs.Wholes.{given-none, given-one, names-count}
use Rattle.checker_simple.proofs.variables.declare_given.Goals as goal

pub returns-clause-none : goal.returns-clause-none
returns-clause-none c = IfOk-weaker c.take_names.result _ _ (λ done free end e all a values v violation.
    let slice = c.as_slice.result.now in
    let there : values ≡ map (given_of (types_of c.args.table.now)) slice = cc in
    let n : length c.args.names.now ≡ length (names_at c.args.names.now) = names-count c.args.names.now (names_at c.args.names.now) (length c.args.names.now) refl refl in
    let many : length (names_at c.args.names.now) ≡ length (map (given_of (types_of c.args.table.now)) slice) = omega (arith, n, length-map slice (given_of (types_of c.args.table.now)), c.in_ok-numbers_agree.ensures.same) in
    given-none (scope_of c.args.table.now c.args.visible.now) (names_at c.args.names.now) all (map (given_of (types_of c.args.table.now)) slice) values c.args.given.now.end end violation a there e
    many c.in_ok-may_declare.ensures.none (free violation)) c.take_names.ensures.none

pub returns-clause-one : goal.returns-clause-one
returns-clause-one c = λ end e all a values v.
    let slice = c.as_slice.result.now in
    let there : values ≡ map (given_of (types_of c.args.table.now)) slice = cc in
    IfErr-weaker c.take_names.result _ _ (λ refusal fails.
    given-one (scope_of c.args.table.now c.args.visible.now) (names_at c.args.names.now) all (map (given_of (types_of c.args.table.now)) slice) values c.args.given.now.end end refusal a there
    c.in_ok-may_declare.ensures.none fails) c.take_names.ensures.one
