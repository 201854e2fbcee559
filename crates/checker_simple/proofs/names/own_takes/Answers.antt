use Rattle.std.proofs.Common.{rules, ◌≡◌, refl, ap, ◌∙◌, Option, Some, None, option_map}
use Rattle.std.proofs.lemmas.Result.{IfOk-weaker, IfErr-weaker}
use Rattle.type_table.specs.Scopes.{Variable}
use Rattle.type_table.specs.Views.{kind_of}
use Rattle.type_table.specs.Visible.{types_of, variable_of}
use Rattle.checker_simple.specs.Givens.{given_of}
use Rattle.checker_simple.proofs.Goes.{own-known, known-own, own-free, free-own}
use Rattle.checker_simple.proofs.names.own_takes.Goals as goal

pub returns-in-Some-clause-one : goal.returns-in-Some-clause-one
returns-in-Some-clause-one c =
    let types = types_of c.args.table.now in
    let entry = c.in-Some.entry in
    let k = Some (kind_of types entry.kind) in
    IfErr-weaker c.fits.result _ _ (λ violation has o e. own-known o (variable_of types entry) (e ∙ ap (option_map (variable_of types)) c.in-Some.is) k refl (given_of types c.args.operand) violation (has k refl)) c.fits.ensures.one

pub returns-in-Some-clause-none : goal.returns-in-Some-clause-none
returns-in-Some-clause-none c =
    let types = types_of c.args.table.now in
    let entry = c.in-Some.entry in
    let k = Some (kind_of types entry.kind) in
    IfOk-weaker c.fits.result _ _ (λ _ good o e violation h. good k refl violation (known-own o (variable_of types entry) (e ∙ ap (option_map (variable_of types)) c.in-Some.is) k refl (given_of types c.args.operand) violation h)) c.fits.ensures.none

pub returns-in_err-fits_any-in-None-clause-one : goal.returns-in_err-fits_any-in-None-clause-one
returns-in_err-fits_any-in-None-clause-one c =
    let types = types_of c.args.table.now in
    let h = λ (o : Option Variable) (e : o ≡ option_map (variable_of types) c.args.own). own-free o (e ∙ ap (option_map (variable_of types)) c.in-None.is) None (given_of types c.args.operand) c.in_err-fits_any-in-None.field-0.0 (c.in_err-fits_any-in-None.ensures.one types None) in
    search (rules, h)

pub returns-in_ok-fits_any-in-None-clause-none : goal.returns-in_ok-fits_any-in-None-clause-none
returns-in_ok-fits_any-in-None-clause-none c = λ o e violation h.
    let types = types_of c.args.table.now in
    c.in_ok-fits_any-in-None.ensures.none types None violation (free-own o (e ∙ ap (option_map (variable_of types)) c.in-None.is) None (given_of types c.args.operand) violation h)
