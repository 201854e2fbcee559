use Rattle.std.proofs.Common.{rules, refl, ap, length, map, Some}
use Rattle.std.proofs.lemmas.Result.{IfOk-weaker}
use Rattle.type_table.specs.Views.{kind_of}
use Rattle.type_table.specs.Visible.{types_of}
use Rattle.checker_simple.specs.Givens.{given_of}
use Rattle.checker_simple.proofs.Goes.{all-fail, fail-one}
use Rattle.checker_simple.proofs.variables.+all_fit.Goals as goal

pub returns-clause-none : goal.returns-clause-none
returns-clause-none t c =
    let types = types_of c.args.table.now in
    let k = Some (kind_of types c.args.kind) in
    IfOk-weaker c.all_fit.result _ _ (λ _ rest violation. all-fail k (given_of types c.in-Some.operand.now) (map (given_of types) c.in-Some.rest.now) (map (given_of types) c.args.values.now) (length c.in-Some.rest.now) (length c.args.values.now) violation
    (ap (map (given_of types)) c.in-Some.ensures.cases.0) (ap length c.in-Some.ensures.cases.0) (c.in_ok-fits.ensures.none k refl violation) (rest violation)) c.all_fit.ensures.none

pub returns-in_err-fits-clause-one : goal.returns-in_err-fits-clause-one
returns-in_err-fits-clause-one t c =
    let types = types_of c.args.table.now in
    let k = Some (kind_of types c.args.kind) in
    let h = fail-one k (given_of types c.in-Some.operand.now) (map (given_of types) c.in-Some.rest.now) (map (given_of types) c.args.values.now) (length c.in-Some.rest.now) (length c.args.values.now) c.in_err-fits.field-0.0
    (ap (map (given_of types)) c.in-Some.ensures.cases.0) (ap length c.in-Some.ensures.cases.0) (c.in_err-fits.ensures.one k refl) in
    search (rules, h)
