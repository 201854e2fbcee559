use Rattle.std.proofs.Common.{◌≡◌, length, map, Some, arith}
use Rattle.std.proofs.lemmas.List.{length-map}
use Rattle.std.proofs.lemmas.Result.{IfOk-weaker, IfErr-weaker}
use Rattle.type_table.specs.Views.{kind_of}
use Rattle.type_table.specs.Visible.{types_of}
use Rattle.checker_simple.specs.Givens.{given_of}
use Rattle.checker_simple.proofs.Wholes.{typed-given-none, typed-given-one}
use Rattle.checker_simple.proofs.variables.typed_given.Goals as goal

pub returns-clause-none : goal.returns-clause-none
returns-clause-none c =
    let types = types_of c.args.table.now in
    let slice = c.as_slice.result.now in
    let n : length slice ≡ c.args.names = omega (arith, c.in_ok-numbers_agree.ensures.same) in
    let many : length (map (given_of types) slice) ≡ c.args.names = omega (arith, n, length-map slice (given_of types)) in
    IfOk-weaker c.all_fit.result _ _ (λ done free end e values v violation.
    let there : values ≡ map (given_of types) slice = cc in
    typed-given-none (Some (kind_of types c.args.kind)) c.args.names (length slice) (map (given_of types) slice) values end violation there many n (free violation)) c.all_fit.ensures.none

pub returns-clause-one : goal.returns-clause-one
returns-clause-one c =
    let types = types_of c.args.table.now in
    let slice = c.as_slice.result.now in
    let n : length slice ≡ c.args.names = omega (arith, c.in_ok-numbers_agree.ensures.same) in
    IfErr-weaker c.all_fit.result _ _ (λ violation fails end e values v.
    let there : values ≡ map (given_of types) slice = cc in
    typed-given-one (Some (kind_of types c.args.kind)) c.args.names (length slice) (map (given_of types) slice) values end violation there n fails) c.all_fit.ensures.one
