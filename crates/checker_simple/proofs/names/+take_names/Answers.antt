use Rattle.std.proofs.Common.{ap, map, Some}
use Rattle.std.proofs.lemmas.Result.{IfOk-weaker, IfErr-weaker}
use Rattle.syntax.specs.View.{name_of}
use Rattle.type_table.specs.Visible.{types_of, globals_in, scope_of}
use Rattle.checker_base.specs.Views.{worth_of}
use Rattle.typing_rules.specs.Expressions.{default_type}
use Rattle.checker_simple.specs.Givens.{given_of}
use Rattle.checker_simple.specs.Names.{names_at}
use Rattle.checker_simple.proofs.Declaring.{names-none, names-one}
use Rattle.checker_simple.proofs.names.+take_names.Goals as goal

pub returns-clause-none : goal.returns-clause-none
returns-clause-none t c =
    let table = c.args.table.now in
    let types = types_of table in
    let name = c.in-Some.name.now.now in
    let operand = c.in-Some-split_first.operand.now in
    IfOk-weaker c.take_names.result _ _ (λ _ rest violation. names-none (globals_in table) (scope_of table c.args.visible.now) (scope_of table c.take_name.new.visible) (name_of name) (default_type (Some (worth_of types operand.worth))) (given_of types operand)
    (names_at c.in-Some.rest.now) (names_at c.args.names.now) (map (given_of types) c.in-Some-split_first.others.now) (map (given_of types) c.args.values.now) violation
    (ap names_at c.in-Some.ensures.cases.0) (ap (map (given_of types)) c.in-Some-split_first.ensures.cases.0) c.requires.once c.in_ok-take_name.ensures.after
    (c.in_ok-take_name.ensures.none violation) (rest violation)) c.take_names.ensures.none

pub returns-clause-one : goal.returns-clause-one
returns-clause-one t c =
    let table = c.args.table.now in
    let types = types_of table in
    let name = c.in-Some.name.now.now in
    let operand = c.in-Some-split_first.operand.now in
    IfErr-weaker c.take_names.result _ _ (λ refusal rest. names-one (globals_in table) (scope_of table c.args.visible.now) (scope_of table c.take_name.new.visible) (name_of name) (default_type (Some (worth_of types operand.worth))) (given_of types operand)
    (names_at c.in-Some.rest.now) (names_at c.args.names.now) (map (given_of types) c.in-Some-split_first.others.now) (map (given_of types) c.args.values.now) refusal
    (ap names_at c.in-Some.ensures.cases.0) (ap (map (given_of types)) c.in-Some-split_first.ensures.cases.0) c.requires.once c.in_ok-take_name.ensures.after rest) c.take_names.ensures.one
