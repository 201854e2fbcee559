use Rattle.std.proofs.Common.{rules, ◌≡◌, true, false}
use Rattle.std.proofs.lemmas.Result.{IfOk-weaker}
use Rattle.syntax.specs.View.{name_of, place_of}
use Rattle.type_table.specs.Scopes.{is_blank}
use Rattle.type_table.specs.Views.{kind_of}
use Rattle.type_table.specs.Visible.{globals_in, scope_of, types_of}
use Rattle.codegen_simple.specs.Spots.{spot_in}
use Rattle.codegen_simple.proofs.Placing.{blank_spot, led_spot}
use Rattle.codegen_simple.proofs.place.place_spot.Goals as goal

pub returns-then-is_blank-clause-spot : goal.returns-then-is_blank-clause-spot
returns-then-is_blank-clause-spot c =
    let scope = scope_of c.args.context.now.table.now c.args.visible.now in
    let is : is_blank (name_of c.args.place.now.name) ≡ true = search rules in
    blank_spot (globals_in c.args.context.now.table.now) c.args.context.now.elements.now scope (place_of c.args.place.now) (kind_of (types_of c.args.context.now.table.now) c.args.kind) c.words_of.result is (c.words_of.ensures scope)

pub returns-clause-spot : goal.returns-clause-spot
returns-clause-spot c =
    let scope = scope_of c.args.context.now.table.now c.args.visible.now in
    let is : is_blank (name_of c.args.place.now.name) ≡ false = search rules in
    IfOk-weaker c.spot_at.result _ _ (λ spot. led_spot (globals_in c.args.context.now.table.now) c.args.context.now.elements.now scope (place_of c.args.place.now) (kind_of (types_of c.args.context.now.table.now) c.args.kind) (spot_in spot) is) c.spot_at.ensures.spot
