use Rattle.std.proofs.Common.{rules, ◌≡◌, refl, sym, true, false}
use Rattle.std.proofs.lemmas.Result.{IfOk-weaker, IfErr-weaker}
use Rattle.syntax.specs.View.{name_of, place_of}
use Rattle.type_table.specs.Scopes.{is_blank}
use Rattle.type_table.specs.Visible.{types_of, globals_in, scope_of}
use Rattle.typing_rules.specs.Operations.{place_type}
use Rattle.checker_simple.specs.Givens.{given_of}
use Rattle.checker_simple.proofs.Goes.{goes-same}
use Rattle.checker_simple.proofs.place.place_takes.Goals as goal

pub returns-in_err-fits_any-clause-one : goal.returns-in_err-fits_any-clause-one
returns-in_err-fits_any-clause-one c =
    let types = types_of c.args.table.now in
    let k = place_type (globals_in c.args.table.now) (scope_of c.args.table.now c.args.visible.now) (place_of c.args.node.now) in
    let blank : true ≡ is_blank (name_of c.args.node.now.name) = cc in
    let h = goes-same true (is_blank (name_of c.args.node.now.name)) blank k k refl (given_of types c.args.operand) c.in_err-fits_any.field-0.0 (c.in_err-fits_any.ensures.one types k) in
    search (rules, h)

pub returns-in_ok-fits_any-clause-none : goal.returns-in_ok-fits_any-clause-none
returns-in_ok-fits_any-clause-none c = λ violation h.
    let types = types_of c.args.table.now in
    let k = place_type (globals_in c.args.table.now) (scope_of c.args.table.now c.args.visible.now) (place_of c.args.node.now) in
    let blank : is_blank (name_of c.args.node.now.name) ≡ true = cc in
    c.in_ok-fits_any.ensures.none types k violation (goes-same (is_blank (name_of c.args.node.now.name)) true blank k k refl (given_of types c.args.operand) violation h)

pub returns-else-is_blank-clause-one : goal.returns-else-is_blank-clause-one
returns-else-is_blank-clause-one c =
    let types = types_of c.args.table.now in
    let k = place_type (globals_in c.args.table.now) (scope_of c.args.table.now c.args.visible.now) (place_of c.args.node.now) in
    let named : false ≡ is_blank (name_of c.args.node.now.name) = cc in
    IfErr-weaker c.fits.result _ _ (λ violation has. goes-same false (is_blank (name_of c.args.node.now.name)) named k k refl (given_of types c.args.operand) violation (has k (sym c.place_type-kind.ensures))) c.fits.ensures.one

pub returns-else-is_blank-clause-none : goal.returns-else-is_blank-clause-none
returns-else-is_blank-clause-none c =
    let types = types_of c.args.table.now in
    let k = place_type (globals_in c.args.table.now) (scope_of c.args.table.now c.args.visible.now) (place_of c.args.node.now) in
    let named : is_blank (name_of c.args.node.now.name) ≡ false = cc in
    IfOk-weaker c.fits.result _ _ (λ _ good violation has. good k (sym c.place_type-kind.ensures) violation (goes-same (is_blank (name_of c.args.node.now.name)) false named k k refl (given_of types c.args.operand) violation has)) c.fits.ensures.none
