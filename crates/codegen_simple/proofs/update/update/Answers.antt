use Rattle.std.proofs.Common.{rules, ◌≡◌, length}
use Rattle.std.proofs.lemmas.Result.{on_ok_weaker}
use Rattle.syntax.specs.View.{expression_of, place_of}
use Rattle.type_table.specs.Views.{kind_of}
use Rattle.type_table.specs.Visible.{globals_in, scope_of, types_of}
use Rattle.codegen_base.specs.Statements.{loads_spot}
use Rattle.codegen_simple.specs.Spots.{spot_in}
use Rattle.codegen_simple.proofs.Updating.{appends_update}
use Rattle.codegen_simple.proofs.update.update.Goals as goal

pub returns : goal.returns
returns c =
    let globals = globals_in c.args.context.now.table.now in
    let elements = c.args.context.now.elements.now in
    let scope = scope_of c.args.context.now.table.now c.args.visible.now in
    let spot = spot_in c.in_ok-spot.spot in
    let before = c.args.code.now.items in
    let n : length before ≡ c.len-first.result = search rules in
    let put = c.in_ok-emit_right.ensures.emitted before (loads_spot globals elements scope spot) n (c.in_ok-load.ensures globals elements scope) in
    on_ok_weaker c.put.result (λ is. appends_update globals elements scope c.args.operator (place_of c.args.place.now) spot c.in_ok-spot.ensures.spot (kind_of (types_of c.args.context.now.table.now) c.place_kind.result) (expression_of c.args.value.now)
    before c.emit_right.new.code.items c.store.new.code.items c.put.new.code.items c.place_kind.ensures put c.in_ok-store.ensures is) c.put.ensures
