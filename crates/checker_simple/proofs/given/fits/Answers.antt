use Rattle.std.proofs.Common.{refl, ap, sym, ◌∙◌, false, Some, option_map}
use Rattle.type_table.specs.Views.{kind_of}
use Rattle.type_table.specs.Visible.{types_of}
use Rattle.checker_simple.specs.Givens.{given_of}
use Rattle.checker_simple.proofs.Goes.{goes-same}
use Rattle.checker_simple.proofs.given.fits.Goals as goal

pub returns-in-Err-clause-one : goal.returns-in-Err-clause-one
returns-in-Err-clause-one c = λ k e.
    let types = types_of c.args.table.now in
    let g = given_of types c.args.operand in
    goes-same false false refl (Some (kind_of types c.in-Some.kind)) k (sym (e ∙ ap (option_map (kind_of types)) c.in-Some.is)) g c.in-Err.violation (c.in-Err.ensures.one g.worth refl g.nodes refl refl)

pub returns-in-Ok-clause-none : goal.returns-in-Ok-clause-none
returns-in-Ok-clause-none c = λ k e violation h.
    let types = types_of c.args.table.now in
    let g = given_of types c.args.operand in
    c.in-Ok.ensures.none g.worth refl g.nodes refl refl violation (goes-same false false refl k (Some (kind_of types c.in-Some.kind)) (e ∙ ap (option_map (kind_of types)) c.in-Some.is) g violation h)
