use Rattle.std.proofs.lemmas.Result.{on_ok_weaker}
use Rattle.syntax.specs.View.{place_of}
use Rattle.type_table.specs.Visible.{globals_in, scope_of, types_of}
use Rattle.codegen_simple.specs.Spots.{spot_in}
use Rattle.codegen_simple.proofs.Updating.{appends_step}
use Rattle.codegen_simple.proofs.update.step.Goals as goal

pub returns : goal.returns
returns c =
    let globals = globals_in c.args.context.now.table.now in
    let elements = c.args.context.now.elements.now in
    let scope = scope_of c.args.context.now.table.now c.args.visible.now in
    on_ok_weaker c.put.result (λ is. appends_step globals elements scope c.args.operator (place_of c.args.place.now) (spot_in c.in_ok-spot.spot) c.in_ok-spot.ensures.spot c.operator_of.result
    c.args.code.now.items c.load.new.code.items c.push.new.self.items c.push-2.new.self.items c.store.new.code.items c.put.new.code.items
    (c.operator_of.ensures (types_of c.args.context.now.table.now)) (c.in_ok-load.ensures globals elements scope) c.in_ok-push.ensures.items c.in_ok-push-2.ensures.items c.in_ok-store.ensures is) c.put.ensures
