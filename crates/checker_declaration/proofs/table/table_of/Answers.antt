use Rattle.std.proofs.Common.{rules, inr, map}
use Rattle.std.proofs.lemmas.Result.{err_from_is_err_and}
use Rattle.syntax.specs.View.{top_of}
use Rattle.typing_rules.specs.Declarations.{HeadersHave, DeclarationsHave}
use Rattle.checker_declaration.proofs.Declared.{refuses_more, declared_fine}
use Rattle.checker_declaration.proofs.table.table_of.Goals as goal

pub returns-clause-none : goal.returns-clause-none
returns-clause-none c = declared_fine (map top_of c.args.tops.now) _ _ c.in_ok-types.ensures c.in_ok-callees.ensures c.in_ok-structs.ensures.none c.in_ok-functions.ensures.none

pub returns-clause-globals : goal.returns-clause-globals
returns-clause-globals c = search rules

pub returns-in_err-structs-clause-one : goal.returns-in_err-structs-clause-one
returns-in_err-structs-clause-one c = search rules

pub returns-in_err-functions-clause-one : goal.returns-in_err-functions-clause-one
returns-in_err-functions-clause-one c =
    let p = err_from_is_err_and c.from_residual-in_err-functions.result c.from_residual-in_err-functions.ensures.1 in
    let tops = map top_of c.args.tops.now in
    rw (p.1, p.2) (refuses_more (HeadersHave c.in_ok-types.types c.in_ok-callees.callees 0 0 tops) (DeclarationsHave tops) c.in_err-functions.field-0.0 (λ violation has. inr (rw (c.in_ok-types.ensures, c.in_ok-callees.ensures) at has)) c.in_err-functions.ensures.one)
